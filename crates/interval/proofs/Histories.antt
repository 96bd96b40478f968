-- Over any history of closes the number counts them, and minima and maxima are those of all their values.
use Rattle.std.proofs.Common.{◌≡◌, ℕ, ◌+◌, ◌%◌, ◌^◌, ◌<◌, Bool, true, false, cond, List, [], ◌∷◌, ◌++◌, length, get_or, ℤ, pos, ◌≤ℤ◌, sym, refl, ap, ◌∙◌, subst, inl, inr, append_assoc, arith, length-append}
use lib.Signed.{lt_z, ≤ℤ_refl}
use Rattle.number.proofs.Signed.{signs}
use Rattle.card.specs.declared.Card.{Card}
use Rattle.sample.specs.declared.Inputs.{Inputs}
use Rattle.sample.specs.declared.Sums.{Sums}
use Rattle.sample.specs.Sums.{Sample}
use Rattle.interval.specs.declared.Settings.{Settings}
use Rattle.interval.specs.declared.Closed.{Closed}
use Rattle.tracking.specs.Tracking.{further, lowest, highest, followed}
use Rattle.interval.specs.Close.{closed_of, registers_after, source_after, number_after, none_closed}
use Rattle.interval.specs.Whole.{sums_of, interval_of}
use Rattle.interval.specs.History.{ClosedNext, ClosedInTurn, AllOf, OneOf, Least, Greatest, value_of, Followed, ClosesFollowed}
use Rattle.tracking.proofs.Slots.{slot_at}

-- an interval that is worked from its samples closes next
pub whole_next : (first : Bool) (t : Settings) (c : Card) (before : Inputs) (xs : List Sample) (old : Closed) →
    ClosedNext t first old (interval_of first t c before xs old)
unfolding interval_of
whole_next first t c before xs old = record { card = c; sums = sums_of c t.config before xs; samples = length xs; is = refl }

-- ---- one interval more behind a list
module _ (P : Closed → Type 0) where
  all_more : (zs : List Closed) (z : Closed) → AllOf P zs → P z → AllOf P (zs ++ (z ∷ []))
  all_more [] z e h = (h, tt)
  all_more (y ∷ zs) z e h = (e.0, all_more zs z e.1 h)

  one_more : (zs : List Closed) (z : Closed) → OneOf P zs → OneOf P (zs ++ (z ∷ []))
  one_more [] z e = absurd e
  one_more (y ∷ zs) z (inl e) = inl e
  one_more (y ∷ zs) z (inr e) = inr (one_more zs z e)

  one_last : (zs : List Closed) (z : Closed) → P z → OneOf P (zs ++ (z ∷ []))
  one_last [] z h = inl h
  one_last (y ∷ zs) z h = inr (one_last zs z h)

all_map : (P Q : Closed → Type 0) → ((z : Closed) → P z → Q z) → (zs : List Closed) → AllOf P zs → AllOf Q zs
all_map P Q f [] e = tt
all_map P Q f (z ∷ zs) e = (f z e.0, all_map P Q f zs e.1)

-- ---- the least and the greatest, with one value more
module _ (f : Closed → ℤ) (zs : List Closed) (z : Closed) where
  least_more : (m : ℤ) → Least f m zs → Least f (lowest false (f z) m) (zs ++ (z ∷ []))
  unfolding lowest further
  least_more m h = by (lt_z (f z) m) refl
    where
      by : (b : Bool) → lt_z (f z) m ≡ b → Least f (cond b (f z) m) (zs ++ (z ∷ []))
      by true e =
          let below = all_map (λ y. m ≤ℤ f y) (λ y. f z ≤ℤ f y) (λ y k. omega (arith, signs, e, k)) zs h.none_less in
          record {
            none_less = all_more (λ y. f z ≤ℤ f y) zs z below (≤ℤ_refl (f z));
            one_is = one_last (λ y. f z ≡ f y) zs z refl;
          }
      by false e = record {
        none_less = all_more (λ y. m ≤ℤ f y) zs z h.none_less (omega (arith, signs, e));
        one_is = one_more (λ y. m ≡ f y) zs z h.one_is;
      }

  greatest_more : (m : ℤ) → Greatest f m zs → Greatest f (highest false (f z) m) (zs ++ (z ∷ []))
  unfolding highest further
  greatest_more m h = by (lt_z m (f z)) refl
    where
      by : (b : Bool) → lt_z m (f z) ≡ b → Greatest f (cond b (f z) m) (zs ++ (z ∷ []))
      by true e =
          let above = all_map (λ y. f y ≤ℤ m) (λ y. f y ≤ℤ f z) (λ y k. omega (arith, signs, e, k)) zs h.none_greater in
          record {
            none_greater = all_more (λ y. f y ≤ℤ f z) zs z above (≤ℤ_refl (f z));
            one_is = one_last (λ y. f z ≡ f y) zs z refl;
          }
      by false e = record {
        none_greater = all_more (λ y. f y ≤ℤ m) zs z h.none_greater (omega (arith, signs, e));
        one_is = one_more (λ y. m ≡ f y) zs z h.one_is;
      }

-- the first value is the least and the greatest of all
least_first : (f : Closed → ℤ) (z : Closed) → Least f (f z) (z ∷ [])
least_first f z = record { none_less = (≤ℤ_refl (f z), tt); one_is = inl refl }

greatest_first : (f : Closed → ℤ) (z : Closed) → Greatest f (f z) (z ∷ [])
greatest_first f z = record { none_greater = (≤ℤ_refl (f z), tt); one_is = inl refl }

-- ---- what a close does to a slot, and to the number
abbrev low_of : Closed → ℕ → ℤ
low_of z k = get_or z.regs.ends.low k (pos 0)

abbrev high_of : Closed → ℕ → ℤ
high_of z k = get_or z.regs.ends.high k (pos 0)

module _ (first : Bool) (t : Settings) (c : Card) (s : Sums) (n : ℕ) (old : Closed) where
  abbrev z : Closed
  z = closed_of first t c s n old

  low_at : (k : ℕ) → k < 6 → low_of z k ≡ lowest first (value_of t k z) (low_of old k)
  unfolding closed_of registers_after source_after followed
  low_at k h = slot_at (λ j. lowest first (value_of t j z) (low_of old j)) k h

  high_at : (k : ℕ) → k < 6 → high_of z k ≡ highest first (value_of t k z) (high_of old k)
  unfolding closed_of registers_after source_after followed
  high_at k h = slot_at (λ j. highest first (value_of t j z) (high_of old j)) k h

  number_at : (m : ℕ) → old.number ≡ m % 2 ^ 32 → z.number ≡ (m + 1) % 2 ^ 32
  unfolding closed_of number_after
  number_at m e = rw e (omega arith)

-- a close after others, and the first
next_followed : (t : Settings) (c : Card) (s : Sums) (n : ℕ) (old : Closed) (zs : List Closed) → Followed t zs old →
    let z = closed_of false t c s n old in Followed t (zs ++ (z ∷ [])) z
next_followed t c s n old zs h =
    let z = closed_of false t c s n old in
    let ys = zs ++ (z ∷ []) in
    record {
      number = number_at false t c s n old (length zs) h.number ∙ ap (λ (m : ℕ). m % 2 ^ 32) (sym (length-append zs (z ∷ [])));
      low = λ k l. subst (λ (m : ℤ). Least (value_of t k) m ys) (sym (low_at false t c s n old k l)) (least_more (value_of t k) zs z _ (h.low k l));
      high = λ k l. subst (λ (m : ℤ). Greatest (value_of t k) m ys) (sym (high_at false t c s n old k l)) (greatest_more (value_of t k) zs z _ (h.high k l));
    }

first_followed : (t : Settings) (c : Card) (s : Sums) (n : ℕ) → let z = closed_of true t c s n none_closed in Followed t (z ∷ []) z
unfolding lowest highest further
first_followed t c s n =
    let z = closed_of true t c s n none_closed in
    record {
      number = number_at true t c s n none_closed 0 refl;
      low = λ k l. subst (λ (m : ℤ). Least (value_of t k) m (z ∷ [])) (sym (low_at true t c s n none_closed k l)) (least_first (value_of t k) z);
      high = λ k l. subst (λ (m : ℤ). Greatest (value_of t k) m (z ∷ [])) (sym (high_at true t c s n none_closed k l)) (greatest_first (value_of t k) z);
    }

next_is : (t : Settings) (zs : List Closed) (old : Closed) → Followed t zs old → (z : Closed) → ClosedNext t false old z → Followed t (zs ++ (z ∷ [])) z
next_is t zs old h z n =
    subst (λ (y : Closed). Followed t (zs ++ (y ∷ [])) y) (sym n.is) (next_followed t n.card n.sums n.samples old zs h)

first_is : (t : Settings) (z : Closed) → ClosedNext t true none_closed z → Followed t (z ∷ []) z
first_is t z n = subst (λ (y : Closed). Followed t (y ∷ []) y) (sym n.is) (first_followed t n.card n.sums n.samples)

-- ---- along a history: `seen` closed, the last of them `old`; then those of `before`, and z
after_others : (t : Settings) (seen : List Closed) (old : Closed) → Followed t seen old → (before : List Closed) (z : Closed) (after : List Closed) →
    ClosedInTurn t false old (before ++ (z ∷ after)) → Followed t (seen ++ (before ++ (z ∷ []))) z
after_others t seen old h [] z after u = next_is t seen old h z u.0
after_others t seen old h (y ∷ before) z after u =
    let k : Followed t (seen ++ (y ∷ [])) y = next_is t seen old h y u.0 in
    subst (λ (xs : List Closed). Followed t xs z) (append_assoc seen (y ∷ []) (before ++ (z ∷ [])))
    (after_others t (seen ++ (y ∷ [])) y k before z after u.1)

from_none : (t : Settings) (before : List Closed) (z : Closed) (after : List Closed) →
    ClosedInTurn t true none_closed (before ++ (z ∷ after)) → Followed t (before ++ (z ∷ [])) z
from_none t [] z after u = first_is t z u.0
from_none t (y ∷ before) z after u = after_others t (y ∷ []) y (first_is t y u.0) before z after u.1

pub closes_followed : ClosesFollowed
closes_followed t zs u before z after e = from_none t before z after (subst (ClosedInTurn t true none_closed) e u)
