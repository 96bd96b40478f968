-- The alarms after every program are what they mean of all voltages and resets.
use mathlib.Core.Path.{◌≡◌, refl, sym, ap, subst, ◌∙◌}
use mathlib.Core.List.{List, [], ◌∷◌, ◌++◌, map, foldl}
use mathlib.Core.Option.{none}
use lib.IntN.{ℤ}
use Rattle.steps.specs.Answers.{OrRefusal, refused, accepted, and_then, or_as_before}
use Rattle.steps.specs.Module.{State}
use Rattle.steps.specs.Run.{run}
use Rattle.steps.specs.OneCard.{Tagged, Interval, tagged, intervals, outset, place_after}
use Rattle.steps.specs.Shorter.{struck}
use Rattle.steps.specs.Watching.{Mark, seen, named, marked, meets, sampled, with_cards, with_card_if, named_of, resets_of}
use Rattle.sample.specs.Sample.{voltage}
use Rattle.alarm.specs.declared.Watch.{Watch}
use Rattle.alarm.specs.Alarms.{Watching, both, seen_with, clearing}
use Rattle.halfcycle.specs.History.{Came, voltages_of, last_squares, met_by, Meant}
use Rattle.halfcycle.proofs.History.{meant}
use Rattle.meter.specs.Core.{core, reset_watch}
use Rattle.aberzhan.specs.declared.Module.{Module}
use Rattle.calls.specs.Ports.{ports, aberzhan}
use Rattle.aberzhan.specs.Module.{watch_of, fresh_module}
use Rattle.calls.specs.Calls.{state_of}
use Rattle.demands.specs.Program.{first, limits, steps, ran}
use Rattle.demands.specs.Intervals.{samples_with_cards}
use Rattle.demands.specs.Alarms.{open_of, corrected_of, came_as, masks_of, came_of, EveryAlarm}
use Rattle.demands.proofs.Demand3.{OfFresh, of_start, module_demand3}
use Rattle.demands.proofs.Wholes.{cut_from}

-- ---- what the steps' watch meets is what the alarms' definition has
cleared_is : (q : Watching) (r : OrRefusal Watch) → or_as_before (and_then r (λ a. both a q.volts)) q ≡ both (or_as_before r q.watch) q.volts
cleared_is q (refused n) = refl
cleared_is q (accepted a) = refl

meets_is : (q : Watching) (m : Mark core) → meets core q m ≡ met_by q (came_as m)
unfolding seen_with reset_watch
meets_is q (seen c x) = refl
meets_is q (named mask) = cleared_is q (clearing q.watch mask)

all_meet : (ms : List (Mark core)) (q : Watching) → foldl (meets core) q ms ≡ foldl met_by q (map came_as ms)
all_meet [] q = refl
all_meet (m ∷ ms) q = ap (λ (z : Watching). foldl (meets core) z ms) (meets_is q m) ∙ all_meet ms (met_by q (came_as m))

-- ---- the voltages among them
abbrev volt : Tagged core → ℤ
volt t = voltage t.0 t.1.0

sampled_volts : (ms : List (Mark core)) → voltages_of (map came_as ms) ≡ map volt (sampled core ms)
sampled_volts [] = refl
sampled_volts (seen c x ∷ ms) = ap (λ (l : List ℤ). voltage c x.0 ∷ l) (sampled_volts ms)
sampled_volts (named mask ∷ ms) = sampled_volts ms

-- ---- and the resets
named_masks : (ms : List (Mark core)) → masks_of (map came_as ms) ≡ named_of core ms
named_masks [] = refl
named_masks (seen c x ∷ ms) = named_masks ms
named_masks (named mask ∷ ms) = ap (λ (l : List ℤ). mask ∷ l) (named_masks ms)

-- ---- from a start
record Unwatched (z : Module) : Type 0 where
  means : (r : List Came) → Meant z.watch.limits r (foldl met_by (watch_of z) r)

fresh_unwatched : OfFresh Unwatched
unfolding fresh_module
fresh_unwatched n b track config t n1 n2 g = record { means = meant t g }

pub every_alarm : EveryAlarm
every_alarm p =
    let d = module_demand3 p in
    let z = first p in
    let ms = marked core ports none (ran p).history (outset core z.meter.work) in
    let from_begin : (ran p).end.meter.watch ≡ foldl (meets core) (watch_of z) ms =
    subst (λ (s : State aberzhan). let r = run aberzhan (steps p) s in r.end.meter.watch ≡ foldl (meets core) (watch_of z) (marked core ports none r.history (outset core z.meter.work)))
    (sym d.begins) d.promise.watch_history in
    let marks : sampled core ms ≡ with_cards core (intervals core (samples_with_cards p) (outset core z.meter.work)) ++ with_card_if core (open_of p) =
    subst (λ (s : State aberzhan).
    let h = (run aberzhan (steps p) s).history in
    let ts = tagged core ports none h in
    sampled core (marked core ports none h (outset core z.meter.work)) ≡ with_cards core (intervals core ts (outset core z.meter.work)) ++ with_card_if core (place_after core ts (outset core z.meter.work)).running)
    (sym d.begins) d.promise.marks_are in
    let masks : named_of core ms ≡ resets_of core ports (struck aberzhan (steps p) (state_of z)) =
    subst (λ (s : State aberzhan). named_of core (marked core ports none (run aberzhan (steps p) s).history (outset core z.meter.work)) ≡ resets_of core ports (struck aberzhan (steps p) s))
    (sym d.begins) d.promise.resets_are in
    let end : watch_of p.log.end ≡ foldl met_by (watch_of z) (came_of p) = ap (λ (s : State aberzhan). s.meter.watch) d.as_calls.end ∙ from_begin ∙ all_meet ms (watch_of z) in
    let m = (of_start Unwatched fresh_unwatched p).means (came_of p) in
    let voltages : voltages_of (came_of p) ≡ corrected_of p =
    sampled_volts ms ∙ ap (map volt) (marks ∙ ap (λ (is : List (Interval core)). with_cards core is ++ with_card_if core (open_of p)) (cut_from p)) in
    record {
      voltages = voltages;
      resets = named_masks ms ∙ masks;
      sum = ap (λ (q : Watching). q.watch.sum) end ∙ m.sum ∙ ap (last_squares (limits p).w) voltages;
      alarms = ap (λ (q : Watching). q.watch.alarms) end ∙ m.alarms;
    }
