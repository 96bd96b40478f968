-- Both roundings are what document 01 means by them, and each has one answer; the machine's shift is the division rounded down.
use mathlib.Core.Path.{◌≡◌, refl}
use Prim.Native.Nat.{ℕ, zero, suc, ◌*◌, ◌/◌, ◌^◌, ◌<◌, ◌≤◌}
use native.Mathlib.Nat.{div-add-mod, mod-lt, div-zero, div-le_self, div-eq_of_lt, pow-le-pow_right}
use native.Mathlib.Omega.{arith}
use lib.IntN.{ℤ, pos, negsuc, neg_ℤ, nat_abs, ◌+ℤ◌, ◌*ℤ◌}
use lib.Signed.{mag, shr_z, ◌≤ℤ◌, ◌<ℤ◌}
use mir.Syntax.{w64}
use mir.Val.{SFits}
use Rattle.number.specs.Sign.{with_sign}
use Rattle.number.specs.Rounding.{floor_div, toward_zero, RoundedDown, RoundedTowardZero}
use Rattle.number.proofs.Signed.{signs, neg_is, add_is, mul_is, norm, abs_is, le_in, le_out}
use Rattle.number.proofs.Signs.{signed_is, signed_size}

-- ---- rounding down
floor_low : (z : ℤ) (m : ℕ) → 0 < m → (floor_div z m *ℤ pos m) ≤ℤ z
unfolding floor_div
floor_low (pos a) m h = omega (arith, signs, div-add-mod a m)
floor_low (negsuc a) m h = omega (arith, signs, mul_is (negsuc (a / m)) (pos m), div-add-mod a m, mod-lt a h)

floor_high : (z : ℤ) (m : ℕ) → 0 < m → z <ℤ ((floor_div z m +ℤ pos 1) *ℤ pos m)
unfolding floor_div
floor_high (pos a) m h = omega (arith, signs, div-add-mod a m, mod-lt a h)
floor_high (negsuc a) m h = rw next (omega (arith, signs, neg_is (pos (a / m * m)), div-add-mod a m, mod-lt a h))
  where
    scale : (b : ℕ) → neg_ℤ (pos b) *ℤ pos m ≡ neg_ℤ (pos (b * m))
    scale zero = omega (arith, signs, neg_is (pos (0 * m)))
    scale (suc b) = refl

    one_up : (b : ℕ) → negsuc b +ℤ pos 1 ≡ neg_ℤ (pos b)
    one_up b = omega (arith, signs, add_is (negsuc b) (pos 1), neg_is (pos b))

    next : (negsuc (a / m) +ℤ pos 1) *ℤ pos m ≡ neg_ℤ (pos (a / m * m))
    next = rw one_up (scale (a / m))

-- q·m ≤ z < (q + 1)·m
pub floor_rounds_down : (z : ℤ) (m : ℕ) → 0 < m → RoundedDown z m (floor_div z m)
floor_rounds_down z m h = record { low = floor_low z m h; high = floor_high z m h }

-- the machine's shift
pub shr_floor : (z : ℤ) (m : ℕ) → shr_z z m ≡ floor_div z m
unfolding floor_div
shr_floor (pos a) m = refl
shr_floor (negsuc a) m = refl

-- ---- rounding toward zero
pub rounds_toward_zero : (z : ℤ) (m : ℕ) → RoundedTowardZero z m (toward_zero z m)
unfolding toward_zero
rounds_toward_zero z m =
    let s = signed_is z (nat_abs z / m) (omega (arith, div-le_self (nat_abs z) m, abs_is z)) in
    record {
      size = signed_size z (nat_abs z / m);
      not_above = λ h. le_in (with_sign z (nat_abs z / m)) (pos 0) (omega (arith, s, norm z, le_out z (pos 0) h));
      not_below = λ h. le_in (pos 0) (with_sign z (nat_abs z / m)) (omega (arith, s, norm z, le_out (pos 0) z h));
    }

-- by 0 it gives 0
pub toward_none : (z : ℤ) → pos 0 ≡ toward_zero z 0
unfolding toward_zero with_sign
toward_none (pos a) = rw div-zero refl
toward_none (negsuc a) = rw div-zero refl

-- ---- beyond 63 bits only the sign of an i64 is left
sign_left : (z : ℤ) (k m : ℕ) → mag z < k → mag z < m → floor_div z k ≡ floor_div z m
unfolding floor_div
sign_left (pos a) k m h l = rw (div-eq_of_lt h, div-eq_of_lt l) refl
sign_left (negsuc a) k m h l = rw (div-eq_of_lt h, div-eq_of_lt l) refl

pub floor_far : {z : ℤ} (bits : ℕ) → SFits w64 z → 64 ≤ bits → floor_div z 9223372036854775808 ≡ floor_div z (2 ^ bits)
floor_far {z} bits h l =
    let p : 2 ^ 63 ≤ 2 ^ bits = pow-le-pow_right {n = 2} (omega arith) {i = 63} {j = bits} (omega arith) in
    sign_left z 9223372036854775808 (2 ^ bits) h.sfits (omega (arith, h.sfits))
