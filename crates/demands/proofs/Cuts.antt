-- The closed intervals are the pieces of N samples: where crate `steps` cuts is where a count to N cuts.
use Prim.Native.Nat.{ℕ, zero, suc, ◌+◌, ◌*◌, ◌/◌, ◌≤◌, ◌<◌}
use mathlib.Core.Path.{◌≡◌, refl, sym, ap, ap₂, ◌∙◌}
use mathlib.Core.Bool.{Bool, true, false, cond}
use mathlib.Core.List.{List, [], ◌∷◌, ◌++◌, map, map-append, append_assoc, foldl}
use mathlib.Core.Option.{Option, none, some}
use native.Mathlib.Nat.{add-div_left, div-eq_of_lt, div-add-mod', suc-mul}
use native.Mathlib.Omega.{arith}
use lib.Dec.{eqb}
use lib.ListN.{length, take, drop, length-append, length-map, length-take, length-drop}
use lib.Seq.{take_at, drop_at}
use borrow.Author.Tests.{eqb-true, eqb-false}
use Rattle.steps.specs.OneCard.{Tagged, Interval, Place, gathered, closed_with, first_of, more_of, cut_if_full, cut_at, outset, intervals}
use Rattle.card.specs.declared.Card.{Card}
use Rattle.sample.specs.Sums.{Sample, added_all}
use Rattle.meter.specs.declared.Work.{Work}
use Rattle.meter.specs.Core.{core, with_sums, closed_work}
use Rattle.demands.specs.Intervals.{pieces, interval_from, cut_by, EachHas}

-- ---- what samples and a close leave as it was
pub sums_only : (c : Card) (xs : List Sample) (w : Work) → foldl (core.add_sample c) w xs ≡ with_sums w (added_all c w.settings.config w.sums xs)
unfolding added_all
sums_only c [] w = refl
sums_only c (x ∷ xs) w = sums_only c xs (core.add_sample c w x)

closed_n : (c : Card) (w : Work) → (closed_work c w).settings.n ≡ w.settings.n
unfolding closed_work
closed_n c w = refl

gathered_n : (i : Interval core) (w : Work) → (gathered core i w).settings.n ≡ w.settings.n
gathered_n i w = ap (λ (u : Work). u.settings.n) (sums_only i.card i.samples w)

-- ---- samples gathered until there are n: `some` are those gathered so far
abbrev Tags : Type 0
Tags = List (Tagged core)

abbrev snoc : Tags → Tagged core → Tags
snoc ts t = ts ++ (t ∷ [])

abbrev grouped : ℕ → Tags → Tags → List Tags
grouped n g [] = []
grouped n g (t ∷ ts) = cond (eqb (length (snoc g t)) n) (snoc g t ∷ grouped n [] ts) (grouped n (snoc g t) ts)

-- the interval that is open has the samples g
abbrev Open : Option (Interval core) → Tags → Type 0
Open none g = g ≡ []
Open (some i) g = (t : Tagged core) × (ts : Tags) × (g ≡ t ∷ ts) × (i ≡ interval_from (t ∷ ts))

-- one sample more
joined : Option (Interval core) → Tagged core → Interval core
joined none t = first_of core t
joined (some i) t = more_of core i t

more_of_lem : (u : Tagged core) (us : Tags) (t : Tagged core) → more_of core (interval_from (u ∷ us)) t ≡ interval_from (snoc (u ∷ us) t)
more_of_lem u us t = ap (λ (l : List Sample). record { card = u.0; samples = u.1 ∷ l }) (sym (map-append (λ (t : Tagged core). t.1) us (t ∷ [])))

joined_is : (o : Option (Interval core)) (g : Tags) (t : Tagged core) → Open o g → joined o t ≡ interval_from (snoc g t)
unfolding joined
joined_is none g t e = ap (λ (g : Tags). interval_from (snoc g t)) (sym e)
joined_is (some i) g t (u, us, e, f) = ap (λ (i : Interval core). more_of core i t) f ∙ more_of_lem u us t ∙ ap (λ (g : Tags). interval_from (snoc g t)) (sym e)

opened : (g : Tags) (t : Tagged core) → Open (some (interval_from (snoc g t))) (snoc g t)
opened [] t = (t, [], refl, refl)
opened (u ∷ us) t = (u, snoc us t, refl, refl)

from_long : (ts : Tags) → length (interval_from ts).samples ≡ length ts
from_long [] = refl
from_long (t ∷ ts) = ap suc (length-map ts (λ (t : Tagged core). t.1))

module _ (n : ℕ) where
  abbrev Groups : Tags → Type 0
  Groups ts = (o : Option (Interval core)) (g : Tags) (w : Work) → w.settings.n ≡ n → Open o g →
      intervals core ts (record { left = w; running = o }) ≡ map interval_from (grouped n g ts)

  -- the interval i, with the samples g, is full or not
  filled : (ts : Tags) → Groups ts → (g : Tags) (t : Tagged core) (w : Work) → w.settings.n ≡ n →
      let i = interval_from (snoc g t) in
      let r = cut_if_full core i w in
      r.1 ++ intervals core ts r.0 ≡ map interval_from (grouped n g (t ∷ ts))
  filled ts ih g t w e = ap (λ (b : Bool). after b) full_is ∙ by (eqb (length (snoc g t)) n)
    where
      i : Interval core
      i = interval_from (snoc g t)

      after : Bool → List (Interval core)
      after b = let r : Place core × List (Interval core) = cond b (record { left = (closed_with core i w).0; running = none }, i ∷ []) (record { left = w; running = some i }, []) in
          r.1 ++ intervals core ts r.0

      full_is : eqb (length i.samples) (gathered core i w).settings.n ≡ eqb (length (snoc g t)) n
      full_is = ap₂ eqb (from_long (snoc g t)) (gathered_n i w ∙ e)

      left_n : (closed_with core i w).0.settings.n ≡ n
      left_n = closed_n i.card (gathered core i w) ∙ gathered_n i w ∙ e

      by : (b : Bool) → after b ≡ map interval_from (cond b (snoc g t ∷ grouped n [] ts) (grouped n (snoc g t) ts))
      by true = ap (λ (l : List (Interval core)). i ∷ l) (ih none [] (closed_with core i w).0 left_n refl)
      by false = ih (some i) (snoc g t) w e (opened g t)

  cut_joins : (o : Option (Interval core)) (w : Work) (t : Tagged core) → cut_at core o w t ≡ cut_if_full core (joined o t) w
  unfolding joined
  cut_joins none w t = refl
  cut_joins (some i) w t = refl

  groups : (ts : Tags) → Groups ts
  groups [] o g w e q = refl
  groups (t ∷ ts) o g w e q =
      ap (λ (r : Place core × List (Interval core)). r.1 ++ intervals core ts r.0) (cut_joins o w t ∙ ap (λ (i : Interval core). cut_if_full core i w) (joined_is o g t q))
      ∙ filled ts (groups ts) g t w e

-- ---- and that are the pieces of n
module _ (n : ℕ) (some_n : 1 ≤ n) where
  abbrev Pieces : Tags → Type 0
  Pieces ts = (g : Tags) → length g < n → grouped n g ts ≡ pieces n (length (g ++ ts) / n) (g ++ ts)

  module _ (ts : Tags) (ih : Pieces ts) (g : Tags) (t : Tagged core) (l : length g < n) where
    all : snoc g t ++ ts ≡ g ++ (t ∷ ts)
    all = append_assoc g (t ∷ []) ts

    full_piece : length (snoc g t) ≡ n → snoc g t ∷ grouped n [] ts ≡ pieces n (length (g ++ (t ∷ ts)) / n) (g ++ (t ∷ ts))
    full_piece e =
        let count : length (snoc g t ++ ts) / n ≡ suc (length ts / n) =
        ap (λ (k : ℕ). k / n) (length-append (snoc g t) ts ∙ ap (λ (k : ℕ). k + length ts) e) ∙ add-div_left (length ts) {k = n} (omega arith) ∙ omega arith in
        ap (λ (l : List Tags). snoc g t ∷ l) (ih [] (omega arith))
        ∙ ap₂ (λ (a b : Tags). a ∷ pieces n (length ts / n) b) (sym (take_at (snoc g t) ts n e)) (sym (drop_at (snoc g t) ts n e))
        ∙ ap (λ (k : ℕ). pieces n k (snoc g t ++ ts)) (sym count)
        ∙ ap (λ (l : Tags). pieces n (length l / n) l) all

    next_piece : (b : Bool) → eqb (length (snoc g t)) n ≡ b →
        cond b (snoc g t ∷ grouped n [] ts) (grouped n (snoc g t) ts) ≡ pieces n (length (g ++ (t ∷ ts)) / n) (g ++ (t ∷ ts))
    next_piece true e = full_piece (eqb-true (length (snoc g t)) n e)
    next_piece false e =
        ih (snoc g t) (omega (arith, length-append g (t ∷ []), eqb-false (length (snoc g t)) n e)) ∙ ap (λ (l : Tags). pieces n (length l / n) l) all

  grouped_is : (ts : Tags) → Pieces ts
  grouped_is [] g l = ap (λ (k : ℕ). pieces n k (g ++ [])) (sym (div-eq_of_lt {n = length (g ++ [])} {m = n} (simp length-append (omega arith))))
  grouped_is (t ∷ ts) g l = next_piece ts (grouped_is ts) g t l (eqb (length (snoc g t)) n) refl

pub cut_is : (n : ℕ) → 1 ≤ n → (ts : Tags) (w : Work) → w.settings.n ≡ n → intervals core ts (outset core w) ≡ cut_by n ts
cut_is n h ts w e = groups n ts none [] w e refl ∙ ap (map interval_from) (grouped_is n h ts [] h)

-- ---- each has n samples
each_by : (n k : ℕ) (ts : Tags) → k * n ≤ length ts → EachHas n (map interval_from (pieces n k ts))
each_by n zero ts l = tt
each_by n (suc k) ts l =
    let s : suc k * n ≡ k * n + n = suc-mul k n in
    (from_long (take n ts) ∙ simp length-take (omega arith), each_by n k (drop n ts) (simp length-drop (omega arith)))

pub each_has : (n : ℕ) (ts : Tags) → EachHas n (cut_by n ts)
each_has n ts = each_by n (length ts / n) ts (omega (arith, div-add-mod' (length ts) n))
