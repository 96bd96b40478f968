-- `blend` meets its contract.
use Rattle.source.proofs.Blends.{part_reads, sum_fits}
use Rattle.source.specs.Sources.{weighed, blended}
use Rattle.number.specs.Rounding.{floor_div}
use Rattle.range.specs.Range.{clipped}
use Rattle.number.proofs.Fits.{answer}
use lib.IntN.{ℤ}
use mathlib.Core.Bool.{Bool, true, false, cond}
use mathlib.Core.Path.{◌≡◌, ◌∙◌, ap}
use mir.Facts.{to_z-of_z}
use mir.Val.{SFits}
use mir.Syntax.{w8, w32, w64}
use borrow.Author.Rules.{rules}
use Rattle.source.proofs.blend.Goals as goal

pub overflow_add-sum : goal.overflow_add-sum
overflow_add-sum c =
    let h : SFits w8 c.args.m.m1 = search rules in
    let k : SFits w8 c.args.m.m3 = search rules in
    rw (part_reads h c.ranges.s1, part_reads k c.ranges.s3) (sum_fits h k c.ranges.s1 c.ranges.s3)

-- the test chooses between the half and the whole
chosen : (x : ℤ) (b b' : Bool) → b ≡ b' → cond b (floor_div x 2) x ≡ cond b' (floor_div x 2) x
chosen x b b' e = ap (λ (b : Bool). cond b (floor_div x 2) x) e

pub returns-then-uses_both : goal.returns-then-uses_both
unfolding blended weighed
returns-then-uses_both c =
    let h : SFits w8 c.args.m.m1 = search rules in
    let k : SFits w8 c.args.m.m3 = search rules in
    answer w32 c.clip.type_inv
    (c.clip.ensures
    ∙ ap clipped (answer w64 c.floor_div.type_inv (c.floor_div.ensures
    ∙ rw (part_reads h c.ranges.s1, part_reads k c.ranges.s3, to_z-of_z (sum_fits h k c.ranges.s1 c.ranges.s3))
    (chosen (weighed c.args.m c.args.s1 c.args.s3) true _ c.if-uses_both.ensures))))

pub returns : goal.returns
unfolding blended weighed
returns c =
    let h : SFits w8 c.args.m.m1 = search rules in
    let k : SFits w8 c.args.m.m3 = search rules in
    answer w32 c.clip-2.type_inv
    (c.clip-2.ensures
    ∙ ap clipped (rw (part_reads h c.ranges.s1, part_reads k c.ranges.s3, to_z-of_z (sum_fits h k c.ranges.s1 c.ranges.s3))
    (chosen (weighed c.args.m c.args.s1 c.args.s3) false _ c.if-uses_both.ensures)))
