-- `number::with_sign` meets its contract.
use native.Mathlib.Omega.{arith}
use mathlib.Core.Path.{◌≡◌}
use Prim.Native.Nat.{◌-◌, ◌<◌}
use lib.IntN.{pos, ◌-ℤ◌}
use mir.Syntax.{w64}
use mir.Val.{SFits, to_z}
use mir.Facts.{to_z-of_z, to_z_pos}
use Rattle.number.proofs.Fits.{within}
use Rattle.number.proofs.Signed.{diff_is}
use Rattle.number.proofs.Signs.{abs_most, abs_above, sign_none, sign_above, sign_below}
use Rattle.number.proofs.with_sign.Goals as goal
use Rattle.number.proofs.with_sign.Goals.{Else-x-lt0, Then-x-lt0}

-- `number::with_sign` meets its contract.
pub returns-then-m-eq0 : goal.returns-then-m-eq0
returns-then-m-eq0 c = rw c.if-m-eq0.true (sign_none c.args.x)

-- below 0
one_less : (c : Then-x-lt0) → c.args.m - 1 < 9223372036854775808
one_less c = omega (arith, abs_most c.ranges.x, c.if-m-eq0.false)

pub overflow_cast-result : goal.overflow_cast-result
overflow_cast-result c = within (omega (arith, one_less c))

back : (c : Then-x-lt0) → to_z w64 (c.args.m - 1) ≡ pos (c.args.m - 1)
back c = to_z_pos w64 (one_less c)

minus : (c : Then-x-lt0) → SFits w64 (pos 0 -ℤ pos (c.args.m - 1))
minus c = within (omega (arith, one_less c, diff_is (pos 0) (pos (c.args.m - 1))))

minus_one : (c : Then-x-lt0) → SFits w64 (pos 0 -ℤ pos (c.args.m - 1) -ℤ pos 1)
minus_one c =
    let k = pos (c.args.m - 1) in
    within (omega (arith, one_less c, diff_is (pos 0) k, diff_is (pos 0 -ℤ k) (pos 1)))

pub overflow_sub-result-then-x-lt0 : goal.overflow_sub-result-then-x-lt0
overflow_sub-result-then-x-lt0 c = rw (back c) (minus c)

pub overflow_sub-result-then-x-lt0-2 : goal.overflow_sub-result-then-x-lt0-2
overflow_sub-result-then-x-lt0-2 c = rw (back c, to_z-of_z (minus c)) (minus_one c)

pub returns-then-x-lt0 : goal.returns-then-x-lt0
returns-then-x-lt0 c =
    let h = c.ranges.x in
    rw (back c, to_z-of_z (minus c), to_z-of_z (minus_one c))
    (sign_below c.args.x c.args.m (rw (to_z-of_z h) at c.if-x-lt0.true) (omega (arith, c.if-m-eq0.false)))

-- above
small : (c : Else-x-lt0) → c.args.m < 9223372036854775808
small c =
    let h = c.ranges.x in
    omega (arith, abs_above h (rw (to_z-of_z h) at c.if-x-lt0.false))

pub overflow_cast-result-else-x-lt0 : goal.overflow_cast-result-else-x-lt0
overflow_cast-result-else-x-lt0 c = within (omega (arith, small c))

pub returns-else-x-lt0 : goal.returns-else-x-lt0
returns-else-x-lt0 c =
    let h = c.ranges.x in
    rw (to_z_pos w64 (small c)) (sign_above c.args.x c.args.m (rw (to_z-of_z h) at c.if-x-lt0.false))
