-- `lookup::seek` meets its contract.
use mathlib.Core.Path.{◌≡◌, sym, ◌∙◌}
use mathlib.Core.Bool.{false}
use native.Mathlib.Omega.{arith}
use Rattle.book.specs.Book.{cards, withdrawn}
use Rattle.section.specs.Sections.{has}
use Rattle.section.proofs.Sections.{FoundAt, found_at, found_none}
use Rattle.lookup.specs.Lookup.{seek_of}
use Rattle.lookup.proofs.seek.Goals as goal
use Rattle.lookup.proofs.seek.Goals.{Else-has, In-Some}

pub returns-then-has : goal.returns-then-has
unfolding seek_of
returns-then-has c =
    let h = rw c.withdrawn.ensures.0 at (sym c.has.ensures ∙ c.if-has.true) in
    simp h

kept : (c : Else-has) → has c.args.b.now (withdrawn c.args.b.now) c.args.text.now ≡ false
kept c = rw c.withdrawn.ensures.0 at (sym c.has.ensures ∙ c.if-has.false)

found : (c : In-Some) → FoundAt c.args.b.now (cards c.args.b.now) c.args.text.now c.in-Some.k
found c = found_at _ _ _ _ (rw c.cards-cards.ensures.0 at c.in-Some.ensures)

pub overflow_mul-result : goal.overflow_mul-result
overflow_mul-result c = rw c.cards-cards.ensures.0 (omega (arith, (found (goal.at.overflow_mul-result c).In-Some).within, rw c.cards-cards.ensures.0 at c.cards-cards.ensures.1))

pub overflow_add-result : goal.overflow_add-result
overflow_add-result c = rw c.cards-cards.ensures.0 (omega (arith, (found (goal.at.overflow_add-result c).In-Some).within, rw c.cards-cards.ensures.0 at c.cards-cards.ensures.1))

pub returns-in-Some : goal.returns-in-Some
unfolding seek_of
returns-in-Some c =
    let f = found (goal.at.returns-in-Some c).In-Some in
    simp (c.cards-cards.ensures.0, kept (goal.at.returns-in-Some c).Else-has, f.held, f.entry)

pub returns-in-None : goal.returns-in-None
unfolding seek_of
returns-in-None c =
    let none = found_none _ _ _ (rw c.cards-cards.ensures.0 at c.in-None.ensures) in
    simp (kept (goal.at.returns-in-None c).Else-has, none)
