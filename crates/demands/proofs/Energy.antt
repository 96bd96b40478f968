-- The energy rule over the whole history of closes: what an interval's close keeps, every sequence of steps keeps.
use mathlib.Core.Path.{◌≡◌, refl, sym, ap, subst, ◌∙◌}
use mathlib.Core.List.{List, [], ◌∷◌, ◌++◌, foldl-append}
use Rattle.steps.specs.Module.{State}
use Rattle.steps.specs.OneCard.{Interval, gathered, closed_all}
use Rattle.steps.proofs.Work.{LastingWork, always_work}
use Rattle.card.specs.declared.Card.{Card}
use Rattle.source.specs.Sources.{Current, IA, IB}
use Rattle.energy.specs.declared.Energy.{Energy}
use Rattle.interval.specs.declared.Settings.{Settings}
use Rattle.interval.specs.declared.Closed.{Closed}
use Rattle.rules.specs.Source.{six, figures_of}
use Rattle.energy.specs.Energies.{no_energy}
use Rattle.interval.specs.Close.{source_after, results_of, registers_after, closed_of, none_closed}
use Rattle.alarm.specs.Starting.{fresh_watch}
use Rattle.meter.specs.declared.Work.{Work}
use Rattle.meter.specs.Core.{core, last_of, closed_work}
use Rattle.meter.specs.Starting.{fresh_of}
use Rattle.aberzhan.specs.declared.Module.{Module}
use Rattle.calls.specs.Ports.{ports, aberzhan}
use Rattle.aberzhan.specs.Module.{fresh_module}
use Rattle.calls.specs.Calls.{state_of}
use Rattle.demands.specs.Program.{first, settings, steps, closes}
use Rattle.demands.specs.EnergyHistory.{plus_with, minus_with, Counted, EachCounted, EnergyHistory}
use Rattle.demands.proofs.Demand3.{OfFresh, of_start, module_demand3, closed_from, one_card_each}
use Rattle.demands.proofs.Cuts.{sums_only}
use Rattle.demands.proofs.Beginning.{none_plus, none_minus}

-- ---- one close, for each source
abbrev plus_in : Current → Closed → Energy
plus_in s z = (results_of s z.regs).plus

abbrev minus_in : Current → Closed → Energy
minus_in s z = (results_of s z.regs).minus

close_plus : (s : Current) (c : Card) (w : Work) → plus_in s (last_of c w) ≡ plus_with w.settings s (plus_in s w.last) (last_of c w)
unfolding last_of closed_of registers_after source_after figures_of six
close_plus IA c w = refl
close_plus IB c w = refl

close_minus : (s : Current) (c : Card) (w : Work) → minus_in s (last_of c w) ≡ minus_with w.settings s (minus_in s w.last) (last_of c w)
unfolding last_of closed_of registers_after source_after figures_of six
close_minus IA c w = refl
close_minus IB c w = refl

closed_settings : (c : Card) (w : Work) → (closed_work c w).settings ≡ w.settings
unfolding closed_work
closed_settings c w = refl

closed_last : (c : Card) (w : Work) → (closed_work c w).last ≡ last_of c w
unfolding closed_work
closed_last c w = refl

-- ---- at the end of every sequence of steps
module _ (t : Settings) where
  close_counted : (c : Card) (w : Work) (h : List Closed) → Counted t w h → Counted t (closed_work c w) (h ++ (last_of c w ∷ []))
  close_counted c w h i =
      let z = last_of c w in
      record {
        settings_are = closed_settings c w ∙ i.settings_are;
        plus = λ s.
            ap (plus_in s) (closed_last c w)
            ∙ close_plus s c w
            ∙ ap (λ (t : Settings). plus_with t s (plus_in s w.last) z) i.settings_are
            ∙ ap (λ (e : Energy). plus_with t s e z) (i.plus s)
            ∙ sym (foldl-append (plus_with t s) no_energy h (z ∷ []));
        minus = λ s.
            ap (minus_in s) (closed_last c w)
            ∙ close_minus s c w
            ∙ ap (λ (t : Settings). minus_with t s (minus_in s w.last) z) i.settings_are
            ∙ ap (λ (e : Energy). minus_with t s e z) (i.minus s)
            ∙ sym (foldl-append (minus_with t s) no_energy h (z ∷ []));
        last = closed_last c w ∙ sym (foldl-append (λ (y z : Closed). z) none_closed h (z ∷ []));
      }

  abbrev lasts : LastingWork core
  lasts = record {
    Of = Counted t;
    on_start = λ c w h i. i;
    on_add = λ c w x h i. record { settings_are = i.settings_are; plus = i.plus; minus = i.minus; last = i.last };
    on_close = close_counted;
  }

-- ---- in each closed interval
module _ (t : Settings) (s : Current) where
  -- the intervals h follow z
  abbrev After : Closed → List Closed → Type 0
  After z h = EachCounted t s (plus_in s z) (minus_in s z) h

  each_by : (c : Card) (w : Work) (h : List Closed) → w.settings ≡ t → After (last_of c w) h → After w.last (last_of c w ∷ h)
  each_by c w h e i = (
    close_plus s c w ∙ ap (λ (t : Settings). plus_with t s (plus_in s w.last) (last_of c w)) e,
    close_minus s c w ∙ ap (λ (t : Settings). minus_with t s (minus_in s w.last) (last_of c w)) e,
    i,
  )

  pub each_counted : (is : List (Interval core)) (w : Work) → w.settings ≡ t → After w.last (closed_all core is w)
  each_counted [] w e = tt
  each_counted (i ∷ is) w e =
      let v = gathered core i w in
      let z = closed_work i.card v in
      let only = sums_only i.card i.samples w in
      let same : v.settings ≡ t = ap (λ (u : Work). u.settings) only ∙ e in
      let rest = each_counted is z (closed_settings i.card v ∙ same) in
      subst (λ (y : Closed). After y (last_of i.card v ∷ closed_all core is z)) (ap (λ (u : Work). u.last) only)
      (each_by i.card v (closed_all core is z) same (subst (λ (y : Closed). After y (closed_all core is z)) (closed_last i.card v) rest))

-- ---- of every program
record Uncounted (z : Module) : Type 0 where
  at_first : Counted z.meter.work.settings z.meter.work []
  each : (s : Current) (is : List (Interval core)) → EachCounted z.meter.work.settings s no_energy no_energy (closed_all core is z.meter.work)

by_source : (w : Work) → w.last ≡ none_closed → (s : Current) (is : List (Interval core)) → EachCounted w.settings s no_energy no_energy (closed_all core is w)
by_source w e s is =
    let t = w.settings in
    let h = closed_all core is w in
    subst (λ (f : Energy). EachCounted t s no_energy f h) (ap (minus_in s) e ∙ none_minus s)
    (subst (λ (g : Energy). EachCounted t s g (minus_in s w.last) h) (ap (plus_in s) e ∙ none_plus s) (each_counted t s is w refl))

fresh_uncounted : OfFresh Uncounted
unfolding fresh_module fresh_of
fresh_uncounted n b track config t n1 n2 g =
    let z = fresh_module (fresh_of n b track config) (fresh_watch t) in
    record {
      at_first = record { settings_are = refl; plus = none_plus; minus = none_minus; last = refl };
      each = by_source z.meter.work refl;
    }

pub energy_history : EnergyHistory
energy_history p =
    let t = settings p in
    let u = of_start Uncounted fresh_uncounted p in
    record {
      at_end =
          subst (λ (w : Work). Counted t w (closes p)) (ap (λ (s : State aberzhan). s.meter.intervals.work) (sym (module_demand3 p).as_calls.end))
          (always_work core (lasts t) ports (state_of (first p)) (steps p) u.at_first);
      in_each = λ s. subst (EachCounted t s no_energy no_energy) (sym (one_card_each p)) (u.each s (closed_from p));
    }
