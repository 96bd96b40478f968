-- `card::value_of` meets its contract.
use Prim.Native.Nat.{◌-◌}
use mathlib.Core.Path.{◌≡◌}
use native.Mathlib.Omega.{arith}
use lib.IntN.{pos, negsuc, ◌-ℤ◌}
use mir.Syntax.{w32}
use mir.Facts.{to_z-of_z, to_z_pos}
use borrow.Author.Tests.{lt-ltb, le-ltb}
use Rattle.number.proofs.Signed.{signs, diff_is}
use Rattle.number.proofs.Fits.{within}
use Rattle.card.specs.Cards.{value_of, signed24}
use Rattle.card.proofs.value_of.Goals as goal

pub returns-then-k-ge2 : goal.returns-then-k-ge2
unfolding value_of
returns-then-k-ge2 c = simp (le-ltb _ _ c.if-k-ge2.true, to_z_pos w32 {n = c.args.n} (omega arith))

pub returns-then-n-lt8388608 : goal.returns-then-n-lt8388608
unfolding value_of signed24
returns-then-n-lt8388608 c = simp (lt-ltb _ _ c.if-k-ge2.false, lt-ltb _ _ c.if-n-lt8388608.true, to_z_pos w32 {n = c.args.n} (omega arith))

pub overflow_sub-result : goal.overflow_sub-result
overflow_sub-result c =
    let n = c.args.n in
    rw (to_z_pos w32 {n = n} (omega arith)) (within (omega (arith, diff_is (pos n) (pos 16777216))))

pub returns : goal.returns
unfolding value_of signed24
returns c =
    let n = c.args.n in
    let e : pos n -ℤ pos 16777216 ≡ negsuc (16777215 - n) = omega (arith, signs, diff_is (pos n) (pos 16777216)) in
    simp (lt-ltb _ _ c.if-k-ge2.false, le-ltb _ _ c.if-n-lt8388608.false, to_z_pos w32 {n = n} (omega arith), e) (to_z-of_z {w = w32} {z = negsuc (16777215 - n)} (within (omega arith)))
