-- Each closed interval is worked from its card, its samples and the raw inputs before its first, as documents 01 and 02 (A1, A5) have it for a whole interval.
use Prim.Native.Nat.{ℕ, ◌≤◌}
use mathlib.Core.Path.{◌≡◌, refl, sym, ap, ◌∙◌}
use mathlib.Core.Bool.{Bool, true, false, cond, not}
use mathlib.Core.List.{List, [], ◌∷◌, map}
use mathlib.Core.Option.{Option, none, some}
use native.Mathlib.Omega.{arith}
use lib.ListN.{length}
use Rattle.steps.specs.Module.{State}
use Rattle.steps.specs.Shorter.{struck}
use Rattle.steps.specs.Gauge.{latest}
use Rattle.steps.specs.OneCard.{Tagged, tagged, Interval, closed_all, samples_fed}
use Rattle.steps.proofs.AllSamples.{all_fed}
use Rattle.card.specs.declared.Card.{Card}
use Rattle.sample.specs.declared.Inputs.{Inputs}
use Rattle.sample.specs.declared.Sums.{Sums}
use Rattle.interval.specs.declared.Settings.{Settings}
use Rattle.interval.specs.declared.Closed.{Closed}
use Rattle.sample.specs.Sums.{Sample, added_all, emptied, previous, no_sums}
use Rattle.interval.specs.Whole.{last_raw, interval_of, sums_of as wholeSums}
use Rattle.interval.specs.Close.{closed_of, none_closed}
use Rattle.interval.proofs.Wholes.{sums_are, closes_whole}
use Rattle.meter.specs.declared.Work.{Work}
use Rattle.meter.specs.Core.{core, with_sums, last_of, closed_work}
use Rattle.meter.specs.Starting.{fresh_of}
use Rattle.aberzhan.specs.declared.Module.{Module}
use Rattle.calls.specs.Ports.{ports, aberzhan}
use Rattle.aberzhan.specs.Module.{fresh_module}
use Rattle.calls.specs.Calls.{state_of}
use Rattle.demands.specs.Program.{Program, first, settings, steps, ran}
use Rattle.demands.specs.Intervals.{samples_with_cards, intervals_of, EachHas, raw_before, wholes, WholeIntervals}
use Rattle.demands.proofs.Demand3.{OfFresh, of_start, module_demand3, closed_from, one_card_each}
use Rattle.demands.proofs.Cuts.{sums_only, cut_is, each_has}

-- ---- one interval
-- the raw inputs that were seen last
abbrev raw_of : Sums → Option Inputs
raw_of s = cond s.seen (some s.raw) none

raw_before_lem : (s : Sums) (x : Sample) (xs : List Sample) → previous s x.1 ≡ raw_before (raw_of s) (x ∷ xs)
unfolding previous
raw_before_lem s x xs = by s.seen
  where
    by : (b : Bool) → cond b s.raw x.1 ≡ raw_before (cond b (some s.raw) none) (x ∷ xs)
    by true = refl
    by false = refl

close_is : (c : Card) (w : Work) (s : Sums) (x : Sample) (xs : List Sample) → w.sums ≡ emptied s → length (x ∷ xs) ≡ w.settings.n →
    last_of c (with_sums w (added_all c w.settings.config w.sums (x ∷ xs))) ≡ interval_of (not w.any) w.settings c (raw_before (raw_of s) (x ∷ xs)) (x ∷ xs) w.last
unfolding last_of
close_is c w s x xs e l =
    ap (λ (z : Sums). closed_of (not w.any) w.settings c (added_all c w.settings.config z (x ∷ xs)) w.settings.n w.last) e
    ∙ ap (λ (n : ℕ). closed_of (not w.any) w.settings c (added_all c w.settings.config (emptied s) (x ∷ xs)) n w.last) (sym l)
    ∙ closes_whole (not w.any) w.settings c s x xs w.last
    ∙ ap (λ (r : Inputs). interval_of (not w.any) w.settings c r (x ∷ xs) w.last) (raw_before_lem s x xs)

raw_is : (c : Card) (w : Work) (s : Sums) (x : Sample) (xs : List Sample) → w.sums ≡ emptied s →
    raw_of (added_all c w.settings.config w.sums (x ∷ xs)) ≡ some (last_raw (raw_before (raw_of s) (x ∷ xs)) (x ∷ xs))
unfolding wholeSums
raw_is c w s x xs e =
    ap (λ (z : Sums). raw_of (added_all c w.settings.config z (x ∷ xs))) e
    ∙ ap raw_of (sums_are c w.settings.config s x xs)
    ∙ ap (λ (r : Inputs). some (last_raw r (x ∷ xs))) (raw_before_lem s x xs)

after_close : (c : Card) (w : Work) → ((closed_work c w).sums ≡ emptied w.sums) × ((closed_work c w).any ≡ true) × ((closed_work c w).last ≡ last_of c w) × ((closed_work c w).settings ≡ w.settings)
unfolding closed_work
after_close c w = (refl, refl, refl, refl)

-- ---- all of them
module _ (t : Settings) (some_n : 1 ≤ t.n) where
  -- what the intervals `is` come to, from the work w with the sums that s left
  abbrev From : List (Interval core) → Type 0
  From is = (w : Work) (s : Sums) → w.settings ≡ t → w.sums ≡ emptied s → closed_all core is w ≡ wholes t (not w.any) (raw_of s) w.last is

  one_more : (c : Card) (x : Sample) (xs : List Sample) (is : List (Interval core)) → length (x ∷ xs) ≡ t.n → From is → From (record { card = c; samples = x ∷ xs } ∷ is)
  one_more c x xs is l rest w s e f =
      let u = with_sums w (added_all c w.settings.config w.sums (x ∷ xs)) in
      let a = after_close c u in
      let z : last_of c u ≡ interval_of (not w.any) t c (raw_before (raw_of s) (x ∷ xs)) (x ∷ xs) w.last =
      close_is c w s x xs f (l ∙ ap (λ (t : Settings). t.n) (sym e))
      ∙ ap (λ (t : Settings). interval_of (not w.any) t c (raw_before (raw_of s) (x ∷ xs)) (x ∷ xs) w.last) e in
      ap (λ (v : Work). last_of c v ∷ closed_all core is (closed_work c v)) (sums_only c (x ∷ xs) w)
      ∙ ap (λ (h : List Closed). last_of c u ∷ h) (rest (closed_work c u) (added_all c w.settings.config w.sums (x ∷ xs)) (a.3 ∙ e) a.0)
      ∙ ap (λ (b : Bool). last_of c u ∷ wholes t (not b) (raw_of (added_all c w.settings.config w.sums (x ∷ xs))) (closed_work c u).last is) a.1
      ∙ ap (λ (r : Option Inputs). last_of c u ∷ wholes t false r (closed_work c u).last is) (raw_is c w s x xs f)
      ∙ ap (λ (y : Closed). last_of c u ∷ wholes t false (some (last_raw (raw_before (raw_of s) (x ∷ xs)) (x ∷ xs))) y is) a.2
      ∙ ap (λ (y : Closed). y ∷ wholes t false (some (last_raw (raw_before (raw_of s) (x ∷ xs)) (x ∷ xs))) y is) z

  more : (c : Card) (xs : List Sample) (is : List (Interval core)) → length xs ≡ t.n → From is → From (record { card = c; samples = xs } ∷ is)
  more c [] is l rest = absurd (omega (arith, l, some_n))
  more c (x ∷ xs) is l rest = one_more c x xs is l rest

  pub wholes_are : (is : List (Interval core)) → EachHas t.n is → From is
  wholes_are [] f w s e g = refl
  wholes_are (i ∷ is) f w s e g = more i.card i.samples is f.0 (wholes_are is f.1) w s e g

-- ---- of every program
-- what a start leaves: at least one sample an interval, and nothing closed or summed
record Outset (z : Module) : Type 0 where
  some_n : 1 ≤ z.meter.work.settings.n
  empty : z.meter.work.sums ≡ emptied no_sums
  none_has_closed : z.meter.work.any ≡ false
  last : z.meter.work.last ≡ none_closed

fresh_outset : OfFresh Outset
unfolding fresh_module fresh_of emptied
fresh_outset n b track config t n1 n2 g = record { some_n = n1; empty = refl; none_has_closed = refl; last = refl }

pub cut_from : (p : Program) → closed_from p ≡ intervals_of p
cut_from p = cut_is (settings p).n (of_start Outset fresh_outset p).some_n (samples_with_cards p) (first p).meter.work refl

pub whole_intervals : WholeIntervals
whole_intervals p =
    let w = (first p).meter.work in
    let o = of_start Outset fresh_outset p in
    let full = each_has (settings p).n (samples_with_cards p) in
    record {
      all_samples = all_are;
      each_has_n = full;
      whole =
          one_card_each p
          ∙ ap (λ (is : List (Interval core)). closed_all core is w) (cut_from p)
          ∙ wholes_are (settings p) o.some_n (intervals_of p) full w no_sums refl o.empty
          ∙ ap (λ (b : Bool). wholes (settings p) (not b) (raw_of no_sums) w.last (intervals_of p)) o.none_has_closed
          ∙ ap (λ (z : Closed). wholes (settings p) true none z (intervals_of p)) o.last;
    }
  where
    latest_none : latest core (state_of (first p)).meter.intervals ≡ none
    latest_none = ap (λ (s : State aberzhan). latest core s.meter.intervals) (module_demand3 p).begins

    all_are : map (λ (t : Tagged core). t.1) (samples_with_cards p) ≡ samples_fed core ports (struck aberzhan (steps p) (state_of (first p)))
    all_are =
        ap (λ (c : Option Card). map (λ (t : Tagged core). t.1) (tagged core ports c (ran p).history)) (sym latest_none)
        ∙ all_fed core ports (steps p) (state_of (first p))
