-- `mix` meets its contract.
use mathlib.Core.Path.{◌≡◌, sym, ◌∙◌}
use Prim.Native.Nat.{◌<◌}
use lib.Signed.{mag}
use lib.IntN.{ℤ, pos, ◌-ℤ◌, ◌*ℤ◌}
use mir.Syntax.{w32, w64}
use mir.Val.{SFits, to_z, of_z}
use mir.Facts.{to_z-of_z}
use Rattle.number.specs.Rounding.{floor_div}
use Rattle.number.proofs.Fits.{answer, diff_fits}
use Rattle.range.proofs.Ranges.{in_fits, in_mag}
use Rattle.sample.proofs.Mixing.{mix_by, read16, part_fits, mix_fits}
use Rattle.summing.proofs.mix.Goals as goal
use Rattle.summing.proofs.mix.Goals.{After-floor_div}

-- a value of the range has 32 bits
narrow : (z : ℤ) → mag z < 8388608 → SFits w32 z
narrow z h = in_fits (in_mag z h)

pub overflow_sub-previous : goal.overflow_sub-previous
overflow_sub-previous c = rw (to_z-of_z c.ranges.previous, to_z-of_z c.ranges.now) (diff_fits (narrow c.args.previous c.requires.1) (narrow c.args.now c.requires.0))

pub overflow_mul-phase : goal.overflow_mul-phase
overflow_mul-phase c = rw (to_z-of_z c.ranges.previous, to_z-of_z c.ranges.now, to_z-of_z (diff_fits (narrow c.args.previous c.requires.1) (narrow c.args.now c.requires.0)), read16 c.args.phase c.ranges.phase) (part_fits c.ranges.phase (narrow c.args.now c.requires.0) (narrow c.args.previous c.requires.1))

-- the part that is added to what is now
part_is : (c : After-floor_div) → let a = c.args in to_z w64 (of_z w64 c.floor_div.result) ≡ floor_div (pos a.phase *ℤ (a.previous -ℤ a.now)) 4096
part_is c =
    answer w64 c.floor_div.type_inv
    (c.floor_div.ensures ∙ rw (to_z-of_z c.ranges.previous, to_z-of_z c.ranges.now, to_z-of_z (diff_fits (narrow c.args.previous c.requires.1) (narrow c.args.now c.requires.0)), read16 c.args.phase c.ranges.phase, to_z-of_z (part_fits c.ranges.phase (narrow c.args.now c.requires.0) (narrow c.args.previous c.requires.1))))

pub overflow_add-result : goal.overflow_add-result
overflow_add-result c = rw (part_is (goal.at.overflow_add-result c).After-floor_div, to_z-of_z c.ranges.now) (mix_fits c.ranges.phase (narrow c.args.now c.requires.0) (narrow c.args.previous c.requires.1))

pub returns : goal.returns
returns c =
    let a = c.args in
    rw (part_is (goal.at.returns c).After-floor_div, to_z-of_z c.ranges.now, to_z-of_z (mix_fits c.ranges.phase (narrow c.args.now c.requires.0) (narrow c.args.previous c.requires.1))) (sym (mix_by a.phase a.now a.previous))
