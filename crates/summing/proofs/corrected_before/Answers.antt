-- `corrected_before` meets its contract.
use Rattle.sample.specs.Sums.{previous}
use mathlib.Core.Path.{◌∙◌}
use mir.Facts.{to_z-of_z}
use mir.Val.{SFits}
use mir.Syntax.{w32}
use borrow.Author.Rules.{rules}
use Rattle.summing.proofs.corrected_before.Goals as goal

pub returns-then-s : goal.returns-then-s
unfolding previous
returns-then-s c = let h : SFits w32 c.args.s.raw.s1 = search rules in let k : SFits w32 c.args.s.raw.s3 = search rules in c.correct_both.ensures ∙ rw (to_z-of_z h, to_z-of_z k, c.if-s.true)

pub returns : goal.returns
unfolding previous
returns c = c.correct_both-2.ensures ∙ rw (to_z-of_z c.ranges.s1, to_z-of_z c.ranges.s3, c.if-s.false)
