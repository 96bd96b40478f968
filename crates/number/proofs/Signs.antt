-- Sign and size: what the number of a given size and sign is, in the machine's steps.
use mathlib.Core.Path.{◌≡◌, refl, ap}
use mathlib.Core.Bool.{true, false}
use native.Mathlib.Omega.{arith}
use Prim.Native.Nat.{ℕ, zero, suc, ◌+◌, ◌-◌, ◌≤◌, ◌<◌}
use lib.Dec.{T}
use lib.IntN.{ℤ, pos, negsuc, nat_abs, neg_ℤ, ◌+ℤ◌, ◌-ℤ◌, +ℤ_idl}
use lib.Signed.{lt_z, mag, non_neg, nat_abs-le}
use mir.Syntax.{w64}
use mir.Val.{SFits}
use Rattle.number.specs.Sign.{with_sign, lessened}
use Rattle.number.proofs.Signed.{signs, neg_is, add_is, diff_is, up, dn, lt_z_true, lt_z_false}
use Rattle.number.proofs.Fits.{range, within}

-- the number of size m with the sign of z has that size, and on the other side of 0 nothing
pub signed_is : (z : ℤ) (m : ℕ) → m ≤ up z + dn z → (up (with_sign z m) ≤ up z) × (dn (with_sign z m) ≤ dn z) × (up (with_sign z m) + dn (with_sign z m) ≡ m)
unfolding with_sign
signed_is (pos a) m h = omega arith
signed_is (negsuc a) m h = omega (arith, neg_is (pos m))

pub signed_size : (z : ℤ) (m : ℕ) → nat_abs (with_sign z m) ≡ m
unfolding with_sign
signed_size (pos a) m = refl
signed_size (negsuc a) zero = refl
signed_size (negsuc a) (suc m) = refl

pub lessened_is : (z : ℤ) (m : ℕ) → (up (lessened z m) ≡ up z - m) × (dn (lessened z m) ≡ dn z - m)
unfolding lessened with_sign
lessened_is (pos a) m = omega arith
lessened_is (negsuc a) m = omega (arith, neg_is (pos (suc a - m)))

-- lessened by at least its size, a number is 0
pub lessened_none : (z : ℤ) (m : ℕ) → nat_abs z ≤ m → pos 0 ≡ lessened z m
unfolding lessened with_sign
lessened_none (pos a) m h = ap pos (omega arith)
lessened_none (negsuc a) m h = rw none refl
  where
    none : suc a - m ≡ 0
    none = omega arith

-- ---- numbers below 0 and not below 0, as a test of the machine has them
pub more_fits : {x : ℤ} → SFits w64 x → lt_z x (pos 0) ≡ true → SFits w64 (x +ℤ pos 1)
more_fits {x} h e = within (omega (arith, lt_z_true x (pos 0) e, add_is x (pos 1), range h))

-- a number below 0, counted from -1
pub flipped : (x : ℤ) → lt_z x (pos 0) ≡ true → pos 0 -ℤ (x +ℤ pos 1) ≡ pos (mag x)
flipped (pos a) e = absurd (omega (arith, lt_z_true (pos a) (pos 0) e))
flipped (negsuc a) e = omega (arith, signs, add_is (negsuc a) (pos 1), diff_is (pos 0) (negsuc a +ℤ pos 1))

pub abs_below : (x : ℤ) → lt_z x (pos 0) ≡ true → mag x + 1 ≡ nat_abs x
abs_below (pos a) e = absurd (omega (arith, lt_z_true (pos a) (pos 0) e))
abs_below (negsuc a) e = omega arith

pub above_nonneg : (x : ℤ) → lt_z x (pos 0) ≡ false → T (non_neg x)
above_nonneg (pos a) e = tt
above_nonneg (negsuc a) e = absurd (omega (arith, lt_z_false (negsuc a) (pos 0) e))

pub abs_most : {x : ℤ} → SFits w64 x → nat_abs x ≤ 9223372036854775808
abs_most {x} h = nat_abs-le x h.sfits

pub abs_above : {x : ℤ} → SFits w64 x → lt_z x (pos 0) ≡ false → nat_abs x < 9223372036854775808
abs_above {x = pos a} h e = h.sfits
abs_above {x = negsuc a} h e = absurd (omega (arith, lt_z_false (negsuc a) (pos 0) e))

pub sign_none : (x : ℤ) → pos 0 ≡ with_sign x 0
unfolding with_sign
sign_none (pos a) = refl
sign_none (negsuc a) = refl

pub sign_above : (x : ℤ) (m : ℕ) → lt_z x (pos 0) ≡ false → pos m ≡ with_sign x m
unfolding with_sign
sign_above (pos a) m e = refl
sign_above (negsuc a) m e = absurd (omega (arith, lt_z_false (negsuc a) (pos 0) e))

pub sign_below : (x : ℤ) (m : ℕ) → lt_z x (pos 0) ≡ true → 0 < m → pos 0 -ℤ pos (m - 1) -ℤ pos 1 ≡ with_sign x m
unfolding with_sign
sign_below (pos a) m e h = absurd (omega (arith, lt_z_true (pos a) (pos 0) e))
sign_below (negsuc a) m e h = omega (arith, signs, diff_is (pos 0) (pos m), diff_is (pos 0) (pos (m - 1)), diff_is (pos 0 -ℤ pos (m - 1)) (pos 1), +ℤ_idl (neg_ℤ (pos m)))
