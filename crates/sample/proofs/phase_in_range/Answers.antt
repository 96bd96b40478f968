-- `phase_in_range` meets its contract.
use mir.Syntax.{w32}
use mir.Val.{SFits}
use mir.Facts.{to_z-of_z}
use lib.IntN.{pos}
use lib.ListN.{get_or}
use borrow.Author.Rules.{rules}
use Rattle.number.proofs.Fits.{ranges, widen}
use Rattle.sample.specs.Sums.{phase_in_range}
use Rattle.sample.proofs.phase_in_range.Goals as goal

pub overflow_cast-f : goal.overflow_cast-f
overflow_cast-f c = search (rules, ranges)

pub returns : goal.returns
unfolding phase_in_range
returns c =
    let h : SFits w32 (get_or c.args.c.fields 4 (pos 0)) = search rules in
    rw (to_z-of_z h, to_z-of_z (widen h)) at c.field_in_range.ensures
