-- Laws of the fields' ranges.
use Prim.Native.Nat.{ℕ, ◌+◌, ◌-◌, ◌<◌, ◌≤◌}
use mathlib.Core.Path.{◌≡◌, refl, sym, subst}
use mathlib.Core.Bool.{Bool, true, false, cond, ◌&&◌, true≢false, and-false}
use native.Mathlib.Omega.{arith}
use lib.IntN.{ℤ, pos, negsuc, nat_abs, ◌-ℤ◌}
use lib.ListN.{get_or}
use lib.Dec.{T, ltb}
use lib.Signed.{lt_z, le_z, non_neg}
use mir.Syntax.{w32, w64}
use mir.Val.{SFits}
use borrow.Author.Tests.{lt-leb, le-leb, ltb-true, ltb-false}
use Rattle.number.proofs.Signed.{up, dn, norm, signs, diff_is, le_out}
use Rattle.number.proofs.Fits.{within}
use Rattle.serial.specs.Every.{every}
use Rattle.serial.proofs.Every.{every_at, and_left, and_right}
use Rattle.card.specs.Fields.{lows, highs, fits_field, is_field, field_in_range}

-- ---- a test on signed numbers, turned round
pub lt_le_z : (a b : ℤ) → lt_z a b ≡ true → le_z b a ≡ false
lt_le_z (pos a) (pos b) h = lt-leb b a (ltb-true a b h)
lt_le_z (pos a) (negsuc b) h = absurd (true≢false (sym h))
lt_le_z (negsuc a) (pos b) h = refl
lt_le_z (negsuc a) (negsuc b) h = lt-leb a b (ltb-true b a h)

pub ge_le_z : (a b : ℤ) → lt_z a b ≡ false → le_z b a ≡ true
ge_le_z (pos a) (pos b) h = le-leb b a (ltb-false a b h)
ge_le_z (pos a) (negsuc b) h = refl
ge_le_z (negsuc a) (pos b) h = absurd (true≢false h)
ge_le_z (negsuc a) (negsuc b) h = le-leb a b (ltb-false b a h)

-- ---- the fields' numbers
pub low_field : (f v : ℤ) → lt_z f (pos 1) ≡ true → field_in_range f v ≡ false
unfolding field_in_range is_field
low_field f v h = simp (lt_le_z f (pos 1) h)

pub high_field : (f v : ℤ) → lt_z (pos 8) f ≡ true → field_in_range f v ≡ false
unfolding field_in_range is_field
high_field f v h = simp (lt_le_z (pos 8) f h, and-false)

-- a field's number less one is its place
pub record Placed (f : ℤ) : Type 0 where
  pub fits : SFits w64 (f -ℤ pos 1)
  pub above : T (non_neg (f -ℤ pos 1))
  pub place : nat_abs (f -ℤ pos 1) ≡ nat_abs f - 1
  pub one : nat_abs f - 1 < 8

placed_pos : (n : ℕ) → 1 ≤ n → n ≤ 8 → Placed (pos n)
placed_pos n l h =
    let e : pos n -ℤ pos 1 ≡ pos (n - 1) = omega (arith, signs, diff_is (pos n) (pos 1)) in
    record { fits = rw e (within (omega arith)); above = rw e tt; place = rw e refl; one = omega arith }

pub placed : (f : ℤ) → lt_z f (pos 1) ≡ false → lt_z (pos 8) f ≡ false → Placed f
placed (pos n) l h = placed_pos n (ltb-false n 1 l) (ltb-false 8 n h)
placed (negsuc n) l h = absurd (true≢false l)

-- ---- a value in its field's range
le_true : (a b : ℤ) → le_z a b ≡ true → up a + dn b ≤ up b + dn a
le_true a b e = le_out a b (record { le = subst T (sym e) tt })

-- every range is within the 24-bit range, and only fields 1 and 2 go below zero
pub record Value (k : ℕ) (v : ℤ) : Type 0 where
  pub most : up v ≤ 8388607
  pub least : dn v ≤ 8388608
  pub above : 2 ≤ k → dn v ≡ 0

inside : ℕ → Bool
inside k = le_z (get_or highs k (pos 0)) (pos 8388607) && le_z (cond (ltb k 2) (negsuc 8388607) (pos 0)) (get_or lows k (pos 0))

all_inside : every inside 8 ≡ true
unfolding every lows highs inside
all_inside = refl

pub value_in : (k : ℕ) (v : ℤ) → k < 8 → fits_field k v ≡ true → Value k v
unfolding fits_field inside
value_in k v l h = by (ltb k 2) refl (and_right (le_z hi (pos 8388607)) (le_z (cond (ltb k 2) (negsuc 8388607) (pos 0)) lo) i)
  where
    lo : ℤ
    lo = get_or lows k (pos 0)

    hi : ℤ
    hi = get_or highs k (pos 0)

    i : inside k ≡ true
    i = every_at inside 8 all_inside k l

    top : up v ≤ 8388607
    top =
        let p = le_true hi (pos 8388607) (and_left (le_z hi (pos 8388607)) (le_z (cond (ltb k 2) (negsuc 8388607) (pos 0)) lo) i) in
        omega (arith, p, le_true v hi (and_right (le_z lo v) (le_z v hi) h), norm v)

    by : (b : Bool) → ltb k 2 ≡ b → le_z (cond b (negsuc 8388607) (pos 0)) lo ≡ true → Value k v
    by true e q =
        let r = le_true lo v (and_left (le_z lo v) (le_z v hi) h) in
        record { most = top; least = omega (arith, r, le_true (negsuc 8388607) lo q, norm v); above = λ m. absurd (omega (arith, ltb-true k 2 e)) }
    by false e q =
        let r = le_true lo v (and_left (le_z lo v) (le_z v hi) h) in
        record { most = top; least = omega (arith, r, le_true (pos 0) lo q, norm v); above = λ m. omega (arith, r, le_true (pos 0) lo q, norm v) }

-- so it fits an i32
pub value_fits : (k : ℕ) (v : ℤ) → k < 8 → fits_field k v ≡ true → SFits w32 v
value_fits k v l h = let x = value_in k v l h in within (omega arith)
