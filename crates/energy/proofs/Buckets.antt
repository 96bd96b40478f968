-- Buckets: the sum of a remainder and an amount, divided apart. `carry` is the bucket that the two remainders fill together.
use Prim.Native.Nat.{ℕ, ◌+◌, ◌*◌, ◌-◌, ◌/◌, ◌%◌, ◌<◌, ◌≤◌}
use mathlib.Core.Path.{◌≡◌, refl}
use native.Mathlib.Nat.{div-add-mod', mod-lt, div-eq_of_lt-le}
use native.Mathlib.Omega.{arith}
use borrow.Author.Tests.{ne_eqb}
use Rattle.energy.specs.declared.Energy.{Energy}
use Rattle.energy.specs.Energies.{advanced}

module _ (remainder amount b : ℕ) (some : 0 < b) where
  -- a quotient and a remainder below b are the quotient and the remainder
  parted : (q r : ℕ) → remainder + amount ≡ q * b + r → r < b → ((remainder + amount) / b ≡ q) × ((remainder + amount) % b ≡ r)
  parted q r e h =
      let d : (remainder + amount) / b ≡ q = div-eq_of_lt-le b (omega arith) (omega arith) in
      (d, omega (arith, rw d at (div-add-mod' (remainder + amount) b)))

  sum_is : remainder + amount ≡ (remainder / b + amount / b) * b + (remainder % b + amount % b)
  sum_is = omega (arith, div-add-mod' remainder b, div-add-mod' amount b)

  pub without_carry : remainder % b < b - amount % b → ((remainder + amount) / b ≡ remainder / b + amount / b) × ((remainder + amount) % b ≡ remainder % b + amount % b)
  without_carry h = parted (remainder / b + amount / b) (remainder % b + amount % b) sum_is (omega arith)

  pub with_carry : b - amount % b ≤ remainder % b → ((remainder + amount) / b ≡ remainder / b + amount / b + 1) × ((remainder + amount) % b ≡ remainder % b - (b - amount % b))
  with_carry h =
      parted (remainder / b + amount / b + 1) (remainder % b - (b - amount % b))
      (omega (arith, sum_is, mod-lt amount some)) (omega (arith, mod-lt remainder some, mod-lt amount some))

-- the count keeps its last 24 bits, also where each part was cut to them before
pub cut_before : (n x y c : ℕ) → (n % 16777216 + x % 16777216 + y % 16777216 + c) % 16777216 ≡ (n + (x + y + c)) % 16777216
cut_before n x y c = omega arith

-- the record, from its two parts
pub advanced_is : (e : Energy) (amount b count remainder : ℕ) → (b ≡ 0 → ⊥) → count ≡ (e.count + (e.remainder + amount) / b) % 16777216 → remainder ≡ (e.remainder + amount) % b →
    record { count = count; remainder = remainder } ≡ advanced e amount b
unfolding advanced
advanced_is e amount b count remainder h p q = rw (ne_eqb b 0 h, p, q) refl
