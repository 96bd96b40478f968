-- `Source::after` meets its contract.
use Rattle.std.proofs.Common.{get_or, pos, to_z-of_z, w32, SFits, rules}
use Rattle.interval.proofs.Directions.{joins_plus, joins_minus, joins_none}
use Rattle.interval.proofs.Source.after.Goals as goal
use Rattle.interval.proofs.Source.after.Goals.{After-amount-more}

fits : (c : After-amount-more) → SFits w32 (get_or c.figures-figures.result 2 (pos 0))
fits c = search rules

pub returns-then-p-gt0 : goal.returns-then-p-gt0
returns-then-p-gt0 c =
    let reads = to_z-of_z (fits (goal.at.returns-then-p-gt0 c).After-amount-more) in
    let k = rw (reads, c.figures-figures.ensures) at c.if-p-gt0.true in
    rw (c.join_plus.ensures, c.amount-more.ensures, reads, c.figures-figures.ensures) (joins_plus _ _ _ _ _ _ k)

pub returns-then-p-lt0 : goal.returns-then-p-lt0
returns-then-p-lt0 c =
    let reads = to_z-of_z (fits (goal.at.returns-then-p-lt0 c).After-amount-more) in
    let h = rw (reads, c.figures-figures.ensures) at c.if-p-gt0.false in
    let k = rw (reads, c.figures-figures.ensures) at c.if-p-lt0.true in
    rw (c.join_minus.ensures, c.amount-more.ensures, reads, c.figures-figures.ensures) (joins_minus _ _ _ _ _ _ h k)

pub returns : goal.returns
returns c =
    let reads = to_z-of_z (fits (goal.at.returns c).After-amount-more) in
    let h = rw (reads, c.figures-figures.ensures) at c.if-p-gt0.false in
    let k = rw (reads, c.figures-figures.ensures) at c.if-p-lt0.false in
    rw c.figures-figures.ensures (joins_none _ _ _ _ _ _ h k)
