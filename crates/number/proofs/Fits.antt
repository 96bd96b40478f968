-- Signed numbers of the machine: which numbers fit a width, bounds followed through an expression, and reading back from the bits.
use mathlib.Core.Path.{◌≡◌, ◌∙◌}
use Prim.Native.Nat.{ℕ, ◌+◌, ◌*◌, ◌^◌, ◌<◌, ◌≤◌, min}
use native.Mathlib.Nat.{mul-le-mul}
use native.Mathlib.Omega.{arith}
use lib.Dec.{T, ltb, ltb→lt}
use lib.IntN.{ℤ, pos, negsuc, nat_abs, ◌+ℤ◌, ◌-ℤ◌, ◌*ℤ◌}
use lib.Signed.{mag, non_neg, nat_abs-le, shr_z, mag_shr}
use mir.Facts.{to_z-of_z, to_z_pos, Fits-nat_abs}
use mir.Syntax.{Width, w32, w64}
use mir.Val.{Fits, SFits, hbits, to_z, of_z}
use Rattle.number.proofs.Signed.{up, dn, add_is, diff_is, mul_within}

-- what fitting a width says of both signs, and back
pub range : {w : Width} {z : ℤ} → SFits w z → (up z < 2 ^ hbits w) × (dn z ≤ 2 ^ hbits w) × (min (up z) (dn z) ≡ 0)
range {z = pos n} h = omega (arith, h.sfits)
range {z = negsuc n} h = omega (arith, h.sfits)

pub within : {w : Width} {z : ℤ} → (up z < 2 ^ hbits w) × (dn z ≤ 2 ^ hbits w) → SFits w z
within {z = pos n} h = record { sfits = h.0 }
within {z = negsuc n} h = record { sfits = h.1 }

-- ---- sizes: a bound on |z|, followed through an expression
pub record Size (z : ℤ) (B : ℕ) : Type 0 where
  pub size : up z + dn z ≤ B

pub size_of : {w : Width} {z : ℤ} → SFits w z → Size z (2 ^ hbits w)
size_of h = omega (arith, range h)

pub size_nat : {n B : ℕ} → n ≤ B → Size (pos n) B
size_nat h = omega arith

pub size_add : {a b : ℤ} {A B : ℕ} → Size a A → Size b B → Size (a +ℤ b) (A + B)
size_add {a} {b} h k = omega (arith, add_is a b)

pub size_sub : {a b : ℤ} {A B : ℕ} → Size a A → Size b B → Size (a -ℤ b) (A + B)
size_sub {a} {b} h k = omega (arith, diff_is a b)

pub size_mul : {a b : ℤ} {A B : ℕ} → Size a A → Size b B → Size (a *ℤ b) (A * B)
size_mul {a} {b} {A} {B} h k = record { size = mul_within a b A B h.size k.size }

pub size_fits : {w : Width} {z : ℤ} {B : ℕ} → Size z B → T (ltb B (2 ^ hbits w)) → SFits w z
size_fits {w} {z} {B} h t = within (omega (arith, ltb→lt B (2 ^ hbits w) t))

-- ---- i32 worked in i64
pub widen : {z : ℤ} → SFits w32 z → SFits w64 z
widen h = within (omega (arith, range h))

pub diff_fits : {a b : ℤ} → SFits w32 a → SFits w32 b → SFits w64 (a -ℤ b)
diff_fits {a} {b} h k = within (omega (arith, diff_is a b, range h, range k))

pub product_fits : {a b : ℤ} → SFits w32 a → SFits w32 b → SFits w64 (a *ℤ b)
product_fits h k = size_fits (size_mul (size_of h) (size_of k)) tt

-- a difference of two i32, times an i32, is never beyond an i64
pub scaled_diff_fits : {a b g : ℤ} → SFits w32 a → SFits w32 b → SFits w32 g → SFits w64 ((a -ℤ b) *ℤ g)
scaled_diff_fits {a} {b} {g} h k l =
    within (omega (arith, mul_within (a -ℤ b) g 4294967295 2147483648 (omega (arith, diff_is a b, range h, range k)) (omega (arith, range l))))

pub shifted_fits : {w : Width} {z : ℤ} (m : ℕ) → SFits w z → SFits w (shr_z z m)
shifted_fits {z = z} m h = record { sfits = omega (arith, mag_shr z m, h.sfits) }

-- the size of an i32, and a product of two u32
pub size_most : {x : ℤ} → SFits w32 x → nat_abs x ≤ 2147483648
size_most {x} h = nat_abs-le x h.sfits

pub product_room : (a b : ℕ) → a ≤ 4294967295 → b ≤ 4294967295 → a * b < 2 ^ 64
product_room a b h k = let p : a * b ≤ 4294967295 * 4294967295 = mul-le-mul h k in omega arith

-- a square is not below 0, and its size fits
pub square_nonneg : (z : ℤ) → T (non_neg (z *ℤ z))
square_nonneg (pos a) = tt
square_nonneg (negsuc a) = tt

pub square_fits : {z : ℤ} → SFits w32 z → Fits w64 (nat_abs (z *ℤ z))
square_fits h = Fits-nat_abs {w = w64} tt (product_fits h h)

-- ---- reading back
-- an unsigned number that was cast to i64 is read back as itself
pub read32 : (n : ℕ) → Fits w32 n → to_z w64 n ≡ pos n
read32 n h = to_z_pos w64 (omega arith)

pub nat_fits32 : {n : ℕ} → Fits w32 n → SFits w64 (pos n)
nat_fits32 h = within (omega arith)

-- what is returned is read back from its bits
pub answer : (w : Width) {z e : ℤ} → mag z < 2 ^ hbits w → z ≡ e → to_z w (of_z w z) ≡ e
answer w h e = to_z-of_z {w = w} (record { sfits = h }) ∙ e

pub ruleset ranges = (to_z-of_z, widen, diff_fits, scaled_diff_fits, product_fits, shifted_fits, read32, nat_fits32)
