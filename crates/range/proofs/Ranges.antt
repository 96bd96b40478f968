-- The 24-bit range: a clipped number is in it, a number in it is its own clip, and what clipping does to both signs.
use mathlib.Core.Path.{◌≡◌, refl, sym, ap, subst, ◌∙◌}
use mathlib.Core.Bool.{Bool, true, false, not, cond, ◌&&◌, false≢true}
use mathlib.Core.Logic.{◌⊎◌, inl, inr}
use Prim.Native.Nat.{ℕ, ◌<◌, min}
use native.Mathlib.Omega.{arith}
use lib.IntN.{ℤ, pos, negsuc}
use lib.Dec.{leb, eqb, lt→ltb}
use lib.Signed.{mag, lt_z, le_z, ◌<ℤ◌, clash_ℤ}
use borrow.Author.Tests.{leb-false, eq-eqb, ne_eqb, not-true, not-false}
use mir.Syntax.{w32, w64}
use mir.Val.{SFits, to_z, of_z}
use mir.Facts.{to_z-of_z}
use Rattle.range.specs.Range.{low, high, in24, outside24, held_within, clipped, capped, InRange}
use Rattle.number.proofs.Signed.{up, dn, norm, signs, cond_is, lt_z_true, lt_z_false, le_in, le_out}
use Rattle.number.proofs.Fits.{Size, widen}

-- a number held within two ends is one of the three
pub held_is : (lo hi z : ℤ) (P : ℤ → Type 0) → (lt_z z lo ≡ true → P lo) → (lt_z z lo ≡ false → lt_z hi z ≡ true → P hi) → (lt_z z lo ≡ false → lt_z hi z ≡ false → P z) → P (held_within lo hi z)
unfolding held_within
held_is lo hi z P f g h = cond_is (lt_z z lo) lo (cond (lt_z hi z) hi z) P f (λ e. cond_is (lt_z hi z) hi z P (g e) (h e))

-- what clipping does to both signs
pub clipped_is : (z : ℤ) → (up (clipped z) ≡ min (up z) 8388607) × (dn (clipped z) ≡ min (dn z) 8388608)
unfolding clipped
clipped_is z =
    held_is low high z (λ r. (up r ≡ min (up z) 8388607) × (dn r ≡ min (dn z) 8388608))
    (λ e. omega (arith, norm z, lt_z_true z low e))
    (λ e k. omega (arith, norm z, lt_z_true high z k))
    (λ e k. omega (arith, norm z, lt_z_false z low e, lt_z_false high z k))

-- a clipped number is in the range
pub clipped_in : (z : ℤ) → InRange (clipped z)
clipped_in z = record { above = le_in low (clipped z) (omega (arith, clipped_is z)); below = le_in (clipped z) high (omega (arith, clipped_is z)) }

-- a number in the range is its own clip
pub clipped_own : (z : ℤ) → InRange z → clipped z ≡ z
clipped_own z h = omega (arith, signs, norm z, clipped_is z, le_out low z h.above, le_out z high h.below)

-- clipped twice is clipped once
pub clipped_twice : (z : ℤ) → clipped (clipped z) ≡ clipped z
clipped_twice z = clipped_own (clipped z) (clipped_in z)

-- for a number that is not below 0, to clip is to take at most 8,388,607
pub clipped_capped : (n : ℕ) → clipped (pos n) ≡ pos (capped n)
clipped_capped n = omega (arith, signs, norm (clipped (pos n)), clipped_is (pos n))

-- `mag`, by which the machine measures a width, is below 2^23 in the range and nowhere else
pub mag_in : (z : ℤ) → InRange z → mag z < 8388608
mag_in (pos a) h = omega (arith, le_out (pos a) high h.below)
mag_in (negsuc a) h = omega (arith, le_out low (negsuc a) h.above)

pub in_mag : (z : ℤ) → mag z < 8388608 → InRange z
in_mag (pos a) h = record { above = le_in low (pos a) (omega arith); below = le_in (pos a) high (omega arith) }
in_mag (negsuc a) h = record { above = le_in low (negsuc a) (omega arith); below = le_in (negsuc a) high (omega arith) }

pub clipped_mag : (z : ℤ) → mag (clipped z) < 8388608
clipped_mag z = mag_in (clipped z) (clipped_in z)

-- the test says the range
pub in24_in : (z : ℤ) → in24 z ≡ true → InRange z
unfolding in24
in24_in z e = go (le_z low z) (le_z z high) refl refl e
  where
    go : (a b : Bool) → le_z low z ≡ a → le_z z high ≡ b → (a && b) ≡ true → InRange z
    go true true p q e = record { above = record { le = rw p tt }; below = record { le = rw q tt } }
    go true false p q e = absurd (false≢true e)
    go false b p q e = absurd (false≢true e)

-- a number outside it is beyond an end
abbrev pub Outside : ℤ → Type 0
Outside z = (z <ℤ low) ⊎ (high <ℤ z)

pub outside_yes : (z : ℤ) → outside24 z ≡ true → Outside z
unfolding outside24 in24
outside_yes (pos n) e = inr (record { lt = lt→ltb 8388607 n (leb-false n 8388607 (not-true (leb n 8388607) e)) })
outside_yes (negsuc n) e = inl (record { lt = lt→ltb 8388607 n (leb-false n 8388607 (left (leb n 8388607) (not-true (leb n 8388607 && true) e))) })
  where
    left : (b : Bool) → b && true ≡ false → b ≡ false
    left true e = e
    left false e = refl

pub outside_no : (z : ℤ) → outside24 z ≡ false → InRange z
unfolding outside24
outside_no z e = in24_in z (not-false (in24 z) e)

pub not_both : (z : ℤ) → InRange z → Outside z → ⊥
not_both z h (inl l) = clash_ℤ l h.above
not_both z h (inr l) = clash_ℤ l h.below

pub in_fits : {z : ℤ} → InRange z → SFits w32 z
in_fits {z} h = record { sfits = omega (arith, mag_in z h) }

pub size24 : (z : ℤ) → mag z < 8388608 → Size z 8388608
size24 (pos a) h = omega arith
size24 (negsuc a) h = omega arith

-- clipping changes just the numbers outside; the machine sees it by comparing the two words
outside_moves : (z : ℤ) → Outside z → clipped z ≡ z → ⊥
outside_moves z h e = not_both z (subst InRange e (clipped_in z)) h

pub outside_test : (z : ℤ) → SFits w64 z → not (eqb (of_z w64 (clipped z)) (of_z w64 z)) ≡ outside24 z
outside_test z h = by (outside24 z) refl
  where
    by : (b : Bool) → outside24 z ≡ b → not (eqb (of_z w64 (clipped z)) (of_z w64 z)) ≡ b
    by true e = ap not (ne_eqb (of_z w64 (clipped z)) (of_z w64 z) (λ w. outside_moves z (outside_yes z e) (sym (to_z-of_z (widen (in_fits (clipped_in z)))) ∙ ap (to_z w64) w ∙ to_z-of_z h)))
    by false e = ap not (eq-eqb (of_z w64 (clipped z)) (of_z w64 z) (ap (of_z w64) (clipped_own z (outside_no z e))))
