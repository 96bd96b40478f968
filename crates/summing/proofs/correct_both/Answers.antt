-- `correct_both` meets its contract.
use Rattle.summing.specs.Inside.{both_of}
use Rattle.range.proofs.Ranges.{in_fits, in_mag}
use Rattle.sample.specs.Sample.{corrected, correction}
use Rattle.sample.proofs.Corrections.{corrected_in}
use mir.Facts.{to_z-of_z}
use mathlib.Core.Path.{◌≡◌}
use mir.Val.{SFits, to_z, of_z}
use mir.Syntax.{w32}
use borrow.Author.Rules.{rules}
use Rattle.summing.proofs.correct_both.Goals as goal
use Rattle.summing.proofs.correct_both.Goals.{After-correct-x, After-correct-y}

s1_is : (c : After-correct-x) → let a = c.args in to_z w32 (of_z w32 c.correct-x.result.value) ≡ corrected a.s1 a.p.ioffs a.p.igain
unfolding correction
s1_is c =
    let h : SFits w32 c.args.p.ioffs = search rules in
    let k : SFits w32 c.args.p.igain = search rules in
    rw (c.correct-x.ensures, to_z-of_z c.ranges.s1, to_z-of_z h, to_z-of_z k) (to_z-of_z (in_fits (in_mag _ (corrected_in _ _ _))))

s3_is : (c : After-correct-y) → let a = c.args in to_z w32 (of_z w32 c.correct-y.result.value) ≡ corrected a.s3 a.p.ioffs a.p.igain
unfolding correction
s3_is c =
    let h : SFits w32 c.args.p.ioffs = search rules in
    let k : SFits w32 c.args.p.igain = search rules in
    rw (c.correct-y.ensures, to_z-of_z c.ranges.s3, to_z-of_z h, to_z-of_z k) (to_z-of_z (in_fits (in_mag _ (corrected_in _ _ _))))

pub returns : goal.returns
unfolding both_of
returns c = rw (s1_is (goal.at.returns c).After-correct-x, s3_is (goal.at.returns c).After-correct-y)
