-- A hold tells of the interval that closed last, and the alarms as they are.
use mathlib.Core.Path.{◌≡◌, refl, sym, ap, subst, ◌∙◌}
use mathlib.Core.Bool.{Bool, true, false, cond}
use mathlib.Core.List.{List, [], ◌∷◌, ◌++◌, foldl-append}
use mathlib.Core.Option.{Option, none, some}
use Rattle.std.specs.Prelude.{Result}
use Rattle.steps.specs.Port.{Port}
use Rattle.steps.specs.Module.{State}
use Rattle.steps.proofs.Work.{LastingWork, always_work}
use Rattle.refusal.specs.declared.Refusal.{Refusal}
use Rattle.card.specs.declared.Card.{Card}
use Rattle.alarm.specs.declared.Alarms.{Alarms}
use Rattle.interval.specs.declared.Closed.{Closed}
use Rattle.meter.specs.declared.Work.{Work}
use Rattle.meter.specs.Core.{core, last_of, closed_work}
use Rattle.meter.specs.Starting.{fresh_of}
use Rattle.aberzhan.specs.declared.Module.{Module}
use Rattle.aberzhan.specs.declared.Holding.{Holding}
use Rattle.calls.specs.Ports.{ports, aberzhan}
use Rattle.aberzhan.specs.Module.{fresh_module}
use Rattle.calls.specs.Calls.{state_of, number_of}
use Rattle.calls.proofs.Contracts.{Holds}
use Rattle.calls.proofs.Told.{hold_tells, hold_refused}
use Rattle.demands.specs.Program.{Program, first, steps, closes}
use Rattle.demands.specs.Holds.{lastly, Telling, HoldsTell}
use Rattle.demands.proofs.Demand3.{OfFresh, of_start, module_demand3}
use Rattle.demands.proofs.Alarms.{every_alarm}

-- the interval that the work shows as the last
abbrev pub shown : Work → Option Closed
shown w = cond w.any (some w.last) none

close_shown : (c : Card) (w : Work) (h : List Closed) → shown (closed_work c w) ≡ lastly (h ++ (last_of c w ∷ []))
unfolding closed_work
close_shown c w h = sym (foldl-append (λ (y : Option Closed) (z : Closed). some z) none h (last_of c w ∷ []))

abbrev lasts : LastingWork core
lasts = record {
  Of = λ w h. shown w ≡ lastly h;
  on_start = λ c w h i. i;
  on_add = λ c w x h i. i;
  on_close = λ c w h i. close_shown c w h;
}

fresh_shown : OfFresh (λ m. shown m.meter.work ≡ none)
unfolding fresh_module fresh_of
fresh_shown n b track config t n1 n2 g = refl

by_any : (m : Module) (q : Port) (r : Result Holding Refusal) (left : Module) → Holds m (number_of (some q)) r left → (b : Bool) → m.meter.work.any ≡ b →
    Telling (cond b (some m.meter.work.last) none) m.watch.alarms r
by_any m q r left h true e = hold_tells m q r left h e
by_any m q r left h false e = hold_refused m q r left h e

-- at the end of a program that is the interval that closed last
pub shown_last : (p : Program) → shown p.log.end.meter.work ≡ lastly (closes p)
shown_last p =
    let begun = of_start (λ (m : Module). shown m.meter.work ≡ none) fresh_shown p in
    let ends = always_work core lasts ports (state_of (first p)) (steps p) begun in
    let same = ap (λ (s : State aberzhan). s.meter.intervals.work) (module_demand3 p).as_calls.end in
    ap shown same ∙ ends

pub holds_tell : HoldsTell
holds_tell p q r left h =
    let m = p.log.end in
    subst (λ (a : Alarms). Telling (lastly (closes p)) a r) (every_alarm p).alarms
    (subst (λ (z : Option Closed). Telling z m.watch.alarms r) (shown_last p) (by_any m q r left h m.meter.work.any refl))
