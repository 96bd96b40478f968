-- `number::floor_div` meets its contract.
use mathlib.Core.Path.{◌∙◌}
use Prim.Native.Nat.{◌^◌}
use mir.Facts.{to_z-of_z}
use Rattle.number.proofs.Fits.{shifted_fits}
use Rattle.number.proofs.Divisions.{shr_floor, floor_far}
use Rattle.number.proofs.floor_div.Goals as goal

pub returns-then-bits-lt64 : goal.returns-then-bits-lt64
returns-then-bits-lt64 c =
    let h = c.ranges.x in
    let m = 2 ^ c.args.bits in
    rw (to_z-of_z h, to_z-of_z (shifted_fits m h)) (shr_floor c.args.x m)

pub returns : goal.returns
returns c =
    let h = c.ranges.x in
    simp (to_z-of_z h, to_z-of_z (shifted_fits 9223372036854775808 h))
    (shr_floor c.args.x 9223372036854775808 ∙ floor_far c.args.bits h c.if-bits-lt64.false)
