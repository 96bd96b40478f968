-- A corrected sample is in the 24-bit range, and so is a mix of two such.
use Prim.Native.Nat.{ℕ, suc, ◌*◌, ◌-◌, ◌<◌, ◌≤◌}
use mathlib.Core.Path.{◌≡◌}
use native.Mathlib.Nat.{mul-le-mul_left}
use native.Mathlib.Omega.{arith}
use lib.IntN.{ℤ, pos, negsuc, ◌+ℤ◌, ◌-ℤ◌, ◌*ℤ◌}
use lib.Signed.{mag}
use Rattle.number.specs.Rounding.{floor_div}
use Rattle.number.proofs.Signed.{up, dn, signs, neg_is, add_is, diff_is}
use Rattle.range.proofs.Ranges.{clipped_mag}
use Rattle.sample.specs.Sample.{scaled, corrected, mixed}

pub corrected_in : (raw offset gain : ℤ) → mag (corrected raw offset gain) < 8388608
unfolding corrected
corrected_in raw offset gain = clipped_mag (scaled raw offset gain)

times : (k : ℕ) (x : ℤ) → (up (pos k *ℤ x) ≡ k * up x) × (dn (pos k *ℤ x) ≡ k * dn x)
times k (pos a) = omega arith
times k (negsuc a) = omega (arith, neg_is (pos (k * suc a)))

floor4096 : (z : ℤ) → up z ≤ 4096 * 8388607 → dn z ≤ 4096 * 8388608 → mag (floor_div z 4096) < 8388608
unfolding floor_div
floor4096 (pos a) h k = omega arith
floor4096 (negsuc a) h k = omega arith

ends : (x : ℤ) → mag x < 8388608 → (up x ≤ 8388607) × (dn x ≤ 8388608)
ends (pos a) h = omega arith
ends (negsuc a) h = omega arith

pub mixed_in : (p : ℕ) (x y : ℤ) → p ≤ 4096 → mag x < 8388608 → mag y < 8388608 → mag (mixed p x y) < 8388608
unfolding mixed
mixed_in p x y h hx hy =
    let rest : pos 4096 -ℤ pos p ≡ pos (4096 - p) = omega (arith, signs, diff_is (pos 4096) (pos p)) in
    let s = add_is (pos (4096 - p) *ℤ x) (pos p *ℤ y) in
    let tx = times (4096 - p) x in
    let ty = times p y in
    rw rest (floor4096 (pos (4096 - p) *ℤ x +ℤ pos p *ℤ y)
    (omega (arith, s, tx, ty, mul-le-mul_left (4096 - p) (ends x hx).0, mul-le-mul_left p (ends y hy).0))
    (omega (arith, s, tx, ty, mul-le-mul_left (4096 - p) (ends x hx).1, mul-le-mul_left p (ends y hy).1)))
