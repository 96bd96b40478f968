-- The window: the kept sum is that of the voltages, whatever takes the place of the oldest.
use Prim.Native.Nat.{ℕ, zero, suc, ◌+◌, ◌*◌, ◌^◌, ◌≤◌, ◌<◌}
use mathlib.Core.Path.{◌≡◌, refl, ap, ap₂, ◌∙◌}
use mathlib.Core.Bool.{Bool, true, false, cond, ◌&&◌}
use mathlib.Core.List.{List, [], ◌∷◌}
use native.Mathlib.Nat.{not-suc-le-zero}
use native.Mathlib.Numerals.{add-one}
use native.Mathlib.Omega.{arith}
use lib.Dec.{eqb, lit<}
use lib.IntN.{ℤ, pos, negsuc}
use lib.ListN.{length, get_or, set, drop, length-set, drop_of_length-le}
use lib.Seq.{drop-cons}
use lib.Signed.{mag}
use borrow.Author.Tests.{eqb-false, le-leb}
use Rattle.number.specs.Sign.{square_of}
use Rattle.range.specs.Range.{in24, InRange}
use Rattle.range.proofs.Ranges.{in24_in, in_mag, mag_in}
use Rattle.sample.specs.Sample.{every24, corrected}
use Rattle.sample.proofs.Rooms.{square24}
use Rattle.sample.proofs.Tests.{both_of}
use Rattle.sample.proofs.Corrections.{corrected_in}
use Rattle.halfcycle.specs.declared.Track.{Track}
use Rattle.alarm.specs.Alarms.{next_place, slid_sum}
use Rattle.halfcycle.specs.Passing.{squares}
use Rattle.halfcycle.specs.Inside.{Swing, moved_by, swept, swept_all, Kept}

-- ---- sums of squares

pub squares_set : (l : List ℤ) (i : ℕ) (v : ℤ) → i < length l → squares (set l i v) + square_of (get_or l i (pos 0)) ≡ squares l + square_of v
unfolding squares
squares_set [] i v h = absurd (not-suc-le-zero h)
squares_set (x ∷ l) zero v h = omega arith
squares_set (x ∷ l) (suc i) v h = omega (arith, squares_set l i v (omega arith))

pub squares_at : (l : List ℤ) (i : ℕ) → square_of (get_or l i (pos 0)) ≤ squares l
unfolding squares
squares_at [] i = omega arith
squares_at (x ∷ l) zero = omega arith
squares_at (x ∷ l) (suc i) = omega (arith, squares_at l i)

mag24 : (z : ℤ) → in24 z ≡ true → mag z < 8388608
mag24 z e = mag_in z (in24_in z e)

pub squares_most : (l : List ℤ) → every24 l ≡ true → squares l ≤ length l * 2 ^ 46
unfolding squares every24
squares_most [] e = omega arith
squares_most (x ∷ l) e =
    let h = both_of (in24 x) (every24 l) e in
    omega (arith, square24 x (mag24 x h.0), squares_most l h.1)

-- from some place on: one of them, and those behind it
pub squares_more : (l : List ℤ) (k : ℕ) → k < length l → squares (drop k l) ≡ square_of (get_or l k (pos 0)) + squares (drop (k + 1) l)
unfolding squares
squares_more l k h = rw (add-one, drop-cons l k (pos 0) h)

pub squares_end : (l : List ℤ) (k : ℕ) → length l ≤ k → squares (drop k l) ≡ 0
unfolding squares
squares_end l k h = rw (drop_of_length-le l {i = k} h)

-- ---- voltages of the range

in24_yes : (z : ℤ) → mag z < 8388608 → in24 z ≡ true
unfolding in24
in24_yes (pos n) h = le-leb n 8388607 (omega arith)
in24_yes (negsuc n) h = ap (λ (b : Bool). b && true) (le-leb n 8388607 (omega arith))

both_true : {s t : Bool} → s ≡ true → t ≡ true → s && t ≡ true
both_true p q = ap₂ ◌&&◌ p q

pub every_set : (l : List ℤ) (i : ℕ) (v : ℤ) → mag v < 8388608 → every24 l ≡ true → every24 (set l i v) ≡ true
unfolding every24
every_set [] i v m e = refl
every_set (x ∷ l) zero v m e = both_true (in24_yes v m) (both_of (in24 x) (every24 l) e).1
every_set (x ∷ l) (suc i) v m e = let h = both_of (in24 x) (every24 l) e in both_true h.0 (every_set l i v m h.1)

pub every_at : (l : List ℤ) (i : ℕ) → every24 l ≡ true → InRange (get_or l i (pos 0))
unfolding every24
every_at [] i e = in_mag (pos 0) (lit< tt)
every_at (x ∷ l) zero e = in24_in x (both_of (in24 x) (every24 l) e).0
every_at (x ∷ l) (suc i) e = every_at l i (both_of (in24 x) (every24 l) e).1

-- ---- the place of the oldest

pub next_below : (w at : ℕ) → at < w → next_place w at < w
unfolding next_place
next_below w at h = by (eqb (suc at) w) refl
  where
    by : (b : Bool) → eqb (suc at) w ≡ b → cond b 0 (suc at) < w
    by true e = omega arith
    by false e = omega (arith, eqb-false (suc at) w e)

-- ---- the window slides

pub kept_most : {w at sum : ℕ} {volts : List ℤ} → Kept w at sum volts → (at < 512) × (sum ≤ 512 * 2 ^ 46)
kept_most {volts = volts} h = (omega (arith, h.at_less, h.w_most), omega (arith, h.sum_is, h.long, squares_most volts h.all24))

pub kept_slid : {w at sum : ℕ} {volts : List ℤ} (x : ℤ) → mag x < 8388608 → Kept w at sum volts →
    Kept w (next_place w at) (slid_sum sum x (get_or volts at (pos 0))) (set volts at x)
unfolding slid_sum
kept_slid {w} {at} {sum} {volts} x m h = record {
  w_most = h.w_most;
  at_less = next_below w at h.at_less;
  long = length-set volts at x ∙ h.long;
  all24 = every_set volts at x m h.all24;
  sum_is = omega (arith, h.sum_is, squares_set volts at x (omega (arith, h.long, h.at_less, h.w_most)));
}

-- ---- the loop

pub kept_swept : (p : Track) (q : Swing) (raw : ℤ) → Kept p.w q.sweep.at q.sweep.sum q.volts →
    let r = swept p q raw in Kept p.w r.sweep.at r.sweep.sum r.volts
unfolding swept moved_by
kept_swept p q raw h = kept_slid (corrected raw p.voffs p.vgain) (corrected_in raw p.voffs p.vgain) h

pub swept_step : (p : Track) (q : Swing) (v : List ℤ) (k : ℕ) → k < length v → swept_all p q (drop k v) ≡ swept_all p (swept p q (get_or v k (pos 0))) (drop (k + 1) v)
unfolding swept_all
swept_step p q v k h = rw (add-one, drop-cons v k (pos 0) h)

pub swept_end : (p : Track) (q : Swing) (v : List ℤ) (k : ℕ) → length v ≤ k → swept_all p q (drop k v) ≡ q
unfolding swept_all
swept_end p q v k h = rw (drop_of_length-le v {i = k} h)
