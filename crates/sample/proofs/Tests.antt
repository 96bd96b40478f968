-- What the tests of sums, PHASE and room say, and that whatever is so passes them.
use Prim.Native.Nat.{ℕ, ◌+◌, ◌-◌, ◌≤◌}
use mathlib.Core.Path.{◌≡◌, refl, sym, ap, ap₂}
use mathlib.Core.Bool.{Bool, true, false, cond, ◌&&◌, true≢false}
use mathlib.Core.List.{List}
use native.Mathlib.Omega.{arith}
use lib.Dec.{T, leb}
use lib.IntN.{ℤ, pos, negsuc, nat_abs}
use lib.ListN.{length}
use lib.Signed.{non_neg}
use borrow.Author.Tests.{leb-true, leb-false, le-leb, lt-leb, eq-eqb, eqb-true}
use Rattle.card.specs.declared.Card.{Card}
use Rattle.card.specs.Fields.{lows, highs, fits_field, is_field, field_in_range}
use Rattle.sample.specs.declared.Flow.{Flow}
use Rattle.sample.specs.declared.Clips.{Clips}
use Rattle.sample.specs.declared.Sums.{Sums}
use Rattle.sample.specs.Fields.{field}
use Rattle.sample.specs.Sums.{samples_in, added_all, flow_within, clips_within, of_at_most, phase_in_range, same_length, has_room, with_samples}
use Rattle.sample.specs.Inside.{Flowing, Few, Room, Phased}

pub both_of : (s t : Bool) → s && t ≡ true → (s ≡ true) × (t ≡ true)
both_of true t e = (refl, e)
both_of false t e = absurd (true≢false (sym e))

both_true : {s t : Bool} → s ≡ true → t ≡ true → s && t ≡ true
both_true p q = ap₂ ◌&&◌ p q

-- ---- PHASE
phase_of : (z : ℤ) → field_in_range (pos 5) z ≡ true → T (non_neg z) × (nat_abs z ≤ 4095)
unfolding field_in_range is_field fits_field lows highs
phase_of (pos n) e = (tt, leb-true n 4095 (both_of (leb 0 n) (leb n 4095) e).1)
phase_of (negsuc n) e = absurd (true≢false (sym e))

pub phased_of : (c : Card) → phase_in_range c ≡ true → Phased c
unfolding phase_in_range
phased_of c e = let h = phase_of (field c 5) e in record { low = h.0; high = h.1 }

phase_yes : (z : ℤ) → T (non_neg z) → nat_abs z ≤ 4095 → field_in_range (pos 5) z ≡ true
unfolding field_in_range is_field fits_field lows highs
phase_yes (pos n) p q = both_true (le-leb 0 n (omega arith)) (le-leb n 4095 q)
phase_yes (negsuc n) p q = absurd p

pub phased_yes : (c : Card) → Phased c → phase_in_range c ≡ true
unfolding phase_in_range
phased_yes c h = phase_yes (field c 5) h.low h.high

-- ---- the sums
flowing_of : (n : ℕ) (f : Flow) → flow_within n f ≡ true → Flowing f n
unfolding flow_within
flowing_of n f e = let two : _ = both_of _ _ e in record { ii = leb-true _ _ two.0; vi = leb-true _ _ two.1 }

flowing_yes : (n : ℕ) (f : Flow) → Flowing f n → flow_within n f ≡ true
unfolding flow_within
flowing_yes n f h = both_true (le-leb _ _ h.ii) (le-leb _ _ h.vi)

few_of : (n : ℕ) (k : Clips) → clips_within n k ≡ true → Few k n
unfolding clips_within
few_of n k e =
    let all : _ = both_of _ _ e in
    let two : _ = both_of _ _ all.0 in
    record { v = leb-true _ _ two.0; s1 = leb-true _ _ two.1; s3 = leb-true _ _ all.1 }

few_yes : (n : ℕ) (k : Clips) → Few k n → clips_within n k ≡ true
unfolding clips_within
few_yes n k h = both_true (both_true (le-leb _ _ h.v) (le-leb _ _ h.s1)) (le-leb _ _ h.s3)

pub room_of : (n : ℕ) (s : Sums) → of_at_most n s ≡ true → (n ≤ 4096) × Room s n
unfolding of_at_most
room_of n s e =
    let c4 : _ = both_of _ _ e in
    let c3 : _ = both_of _ _ c4.0 in
    let c2 : _ = both_of _ _ c3.0 in
    let c1 : _ = both_of _ _ c2.0 in (
      leb-true _ _ c1.0,
      record { vv = leb-true _ _ c1.1; a = flowing_of n s.a c2.1; b = flowing_of n s.b c3.1; clips = few_of n s.clips c4.1 },
    )

pub room_yes : (n : ℕ) (s : Sums) → n ≤ 4096 → Room s n → of_at_most n s ≡ true
unfolding of_at_most
room_yes n s l h =
    let volts = both_true (le-leb _ _ l) (le-leb _ _ h.vv) in
    both_true (both_true (both_true volts (flowing_yes n s.a h.a)) (flowing_yes n s.b h.b)) (few_yes n s.clips h.clips)

-- ---- room for the samples of three slices
-- the sum of both counts, tested without making it
pub few_is : (n l : ℕ) → l ≤ 4096 → leb n (4096 - l) ≡ leb (n + l) 4096
few_is n l h = by (leb n (4096 - l)) refl
  where
    by : (b : Bool) → leb n (4096 - l) ≡ b → b ≡ leb (n + l) 4096
    by true e = sym (le-leb (n + l) 4096 (omega (arith, leb-true n (4096 - l) e)))
    by false e = sym (lt-leb (n + l) 4096 (omega (arith, leb-false n (4096 - l) e)))

pub same_length_lem : (v s1 s3 : List ℤ) → length v ≡ length s1 → length v ≡ length s3 → same_length v s1 s3 ≡ true
unfolding same_length
same_length_lem v s1 s3 e f = both_true (eq-eqb _ _ e) (eq-eqb _ _ f)

pub lengths_same : (v s1 s3 : List ℤ) → same_length v s1 s3 ≡ true → (length v ≡ length s1) × (length v ≡ length s3)
unfolding same_length
lengths_same v s1 s3 e = let two : _ = both_of _ _ e in (eqb-true _ _ two.0, eqb-true _ _ two.1)

module _ (n : ℕ) (c : Card) (g : ℕ) (s : Sums) (v s1 s3 : List ℤ) where
  abbrev joining : Sums
  joining = added_all c g s (samples_in v s1 s3)

  by_room : (b : Bool) → has_room n c s v s1 s3 ≡ b → with_samples n c g s v s1 s3 ≡ cond b joining s
  unfolding with_samples
  by_room b e = ap (λ (b : Bool). cond b joining s) e

  -- the four tests, one by one
  pub joins : same_length v s1 s3 ≡ true → n + length v ≤ 4096 → of_at_most n s ≡ true → phase_in_range c ≡ true → with_samples n c g s v s1 s3 ≡ joining
  unfolding has_room
  joins e l o p = by_room true (both_true (both_true (both_true e (le-leb _ _ l)) o) p)

  no_room : (a b o p : Bool) → same_length v s1 s3 ≡ a → leb (n + length v) 4096 ≡ b → of_at_most n s ≡ o → phase_in_range c ≡ p → with_samples n c g s v s1 s3 ≡ cond (a && b && o && p) joining s
  unfolding has_room
  no_room a b o p e l f h = by_room (a && b && o && p) (ap₂ ◌&&◌ (ap₂ ◌&&◌ (ap₂ ◌&&◌ e l) f) h)

  pub stays_unequal : same_length v s1 s3 ≡ false → with_samples n c g s v s1 s3 ≡ s
  stays_unequal e = no_room false (leb (n + length v) 4096) (of_at_most n s) (phase_in_range c) e refl refl refl

  pub stays_long : leb (n + length v) 4096 ≡ false → with_samples n c g s v s1 s3 ≡ s
  stays_long e = by (same_length v s1 s3) refl
    where
      by : (a : Bool) → same_length v s1 s3 ≡ a → with_samples n c g s v s1 s3 ≡ s
      by true f = no_room true false (of_at_most n s) (phase_in_range c) f e refl refl
      by false f = stays_unequal f

  -- the last three tests, as the code puts them together
  pub stays_by : (b : Bool) → leb (n + length v) 4096 ≡ b → b && of_at_most n s && phase_in_range c ≡ false → with_samples n c g s v s1 s3 ≡ s
  stays_by false e h = stays_long e
  stays_by true e h = by (same_length v s1 s3) refl (of_at_most n s) refl (phase_in_range c) refl h
    where
      by : (a : Bool) → same_length v s1 s3 ≡ a → (o : Bool) → of_at_most n s ≡ o → (p : Bool) → phase_in_range c ≡ p → o && p ≡ false → with_samples n c g s v s1 s3 ≡ s
      by false f o i p k h = stays_unequal f
      by true f true i true k h = absurd (true≢false h)
      by true f true i false k h = no_room true true true false f e i k
      by true f false i p k h = no_room true true false p f e i k
