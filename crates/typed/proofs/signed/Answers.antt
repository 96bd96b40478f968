-- `typed::signed` meets its contract.
use mathlib.Core.Path.{◌≡◌, refl}
use native.Mathlib.Omega.{arith}
use lib.IntN.{pos, ◌-ℤ◌}
use mir.Syntax.{w64}
use mir.Val.{SFits, to_z}
use mir.Facts.{to_z-of_z, to_z_pos}
use Rattle.number.proofs.Fits.{within}
use Rattle.number.proofs.Signed.{diff_is}
use Rattle.typed.specs.Values.{signed_by}
use Rattle.typed.proofs.signed.Goals as goal
use Rattle.typed.proofs.signed.Goals.{Then-below}

back : (c : Then-below) → to_z w64 c.args.n ≡ pos c.args.n
back c = to_z_pos w64 (omega (arith, c.requires))

minus : (c : Then-below) → SFits w64 (pos 0 -ℤ pos c.args.n)
minus c = within (omega (arith, c.requires, diff_is (pos 0) (pos c.args.n)))

pub overflow_sub-result : goal.overflow_sub-result
overflow_sub-result c = rw (back c) (minus c)

pub returns-then-below : goal.returns-then-below
unfolding signed_by
returns-then-below c = rw (back c, to_z-of_z (minus c), c.if-below.true) refl

pub returns-else-below : goal.returns-else-below
unfolding signed_by
returns-else-below c = rw (to_z_pos w64 {n = c.args.n} (omega (arith, c.requires)), c.if-below.false) refl
