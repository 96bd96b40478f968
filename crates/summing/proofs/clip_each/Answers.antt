-- `clip_each` meets its contract.
use mathlib.Core.Path.{◌≡◌, ◌∙◌}
use mir.Syntax.{w32}
use mir.Val.{to_z, of_z}
use mir.Facts.{to_z-of_z}
use lib.IntN.{ℤ}
use mir.Val.{SFits}
use mir.Syntax.{w64}
use Rattle.number.proofs.Fits.{answer, widen}
use Rattle.range.specs.Range.{outside24, clipped}
use Rattle.range.proofs.Ranges.{clipped_in, in_fits}
use Rattle.summing.specs.Inside.{clipped_each}
use Rattle.summing.proofs.clip_each.Goals as goal
use Rattle.summing.proofs.clip_each.Goals.{After-clip, After-clip-2, After-clip-3}

v_is : (c : After-clip) → to_z w32 (of_z w32 c.clip.result) ≡ clipped c.args.v
v_is c = answer w32 c.clip.type_inv (c.clip.ensures ∙ rw (to_z-of_z c.ranges.v))

s1_is : (c : After-clip-2) → to_z w32 (of_z w32 c.clip-2.result) ≡ clipped c.args.s1
s1_is c = answer w32 c.clip-2.type_inv (c.clip-2.ensures ∙ rw (to_z-of_z c.ranges.s1))

s3_is : (c : After-clip-3) → to_z w32 (of_z w32 c.clip-3.result) ≡ clipped c.args.s3
s3_is c = answer w32 c.clip-3.type_inv (c.clip-3.ensures ∙ rw (to_z-of_z c.ranges.s3))

-- a clipped value has 32 bits, and so 64
wide : (z : ℤ) → SFits w64 (clipped z)
wide z = widen (in_fits (clipped_in z))

pub overflow_cast-result : goal.overflow_cast-result
overflow_cast-result c = rw (s1_is c) (wide _)

pub overflow_cast-result-2 : goal.overflow_cast-result-2
overflow_cast-result-2 c = rw (s3_is c) (wide _)

pub returns : goal.returns
unfolding clipped_each outside24
returns c =
    rw (v_is (goal.at.returns c).After-clip, s1_is (goal.at.returns c).After-clip-2, s3_is c, to_z-of_z (wide c.args.s1), to_z-of_z (wide c.args.s3), c.count-clips.ensures, c.holds-3.ensures, c.holds-2.ensures, c.holds.ensures, to_z-of_z c.ranges.v, to_z-of_z c.ranges.s1, to_z-of_z c.ranges.s3)
