-- Demand 3, whole, for any measuring core behind any ports.
use mathlib.Core.Path.{ap}
use mathlib.Core.List.{List}
use Rattle.steps.specs.Module.{Step, fresh}
use Rattle.steps.specs.Gauge.{Gauge, Ports, Metering, newly, in_force, parts_of}
use Rattle.steps.specs.Promise.{Promise}
use Rattle.steps.proofs.Demand3.{demand3}
use Rattle.steps.proofs.Tidy.{in_order}
use Rattle.steps.proofs.OneCard.{one_card}
use Rattle.steps.proofs.AllSamples.{all_samples}
use Rattle.steps.proofs.Watching.{watch_history, marks_are, resets_are}

pub promise : (G : Gauge) (D : Ports (Metering G) G.Card) (blank : G.Card) (w : G.Work) (a : G.Watch) (xs : List (Step (parts_of G D))) →
    Promise G D blank w a xs
promise G D blank w a xs =
    let P = parts_of G D in
    let m = newly G blank w a in
    let d = demand3 P m xs in
    record {
      in_order = in_order P (fresh P m) xs;
      demand3 = d;
      same_card = ap (λ (m : Metering G). in_force G m.intervals) d.same_meter;
      one_card = one_card G D blank w a xs;
      all_samples = all_samples G D blank w a xs;
      watch_history = watch_history G D blank w a xs;
      marks_are = marks_are G D blank w a xs;
      resets_are = resets_are G D blank w a xs;
    }
