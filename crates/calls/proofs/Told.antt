-- Whatever the contract of `Module::hold` allows tells of the interval that closed last and the alarms as they are, or is refused with 14.
use mathlib.Core.Path.{◌≡◌, refl, ap, ◌∙◌}
use mathlib.Core.Bool.{true, false}
use mathlib.Core.Option.{some}
use Rattle.std.specs.Prelude.{Result}
use Rattle.steps.specs.Answers.{refused, accepted, answer_of}
use Rattle.steps.specs.Port.{Port, port0, port1}
use Rattle.refusal.specs.declared.Refusal.{Refusal}
use Rattle.port.specs.Holds.{copy_of, copied}
use Rattle.aberzhan.specs.declared.Module.{Module}
use Rattle.aberzhan.specs.declared.Holding.{Holding}
use Rattle.aberzhan.specs.Module.{Outcome, port_at, hold_of}
use Rattle.calls.specs.Calls.{number_of}
use Rattle.calls.specs.Told.{TellsOf}
use Rattle.calls.proofs.Contracts.{Holds, held_by}

-- what a hold hands back of the interval that closed last
abbrev last_told : Module → Holding
last_told m = let z = m.meter.work.last in record { number = z.number; serial = z.serial; clips = z.clips; alarms = m.watch.alarms }

last_answer : (m : Module) (q : Port) → m.meter.work.any ≡ true → (hold_of m (number_of (some q))).answer ≡ accepted (last_told m)
unfolding hold_of port_at copied copy_of
last_answer m port0 e = rw e
last_answer m port1 e = rw e

none_told : (m : Module) (q : Port) → m.meter.work.any ≡ false → (hold_of m (number_of (some q))).answer ≡ refused 14
unfolding hold_of port_at copied copy_of
none_told m port0 e = rw e
none_told m port1 e = rw e

pub hold_tells : (m : Module) (q : Port) (r : Result Holding Refusal) (z : Module) → Holds m (number_of (some q)) r z → m.meter.work.any ≡ true →
    TellsOf m.meter.work.last m.watch.alarms r
hold_tells m q r z h e = record {
  told = last_told m;
  answer = ap (λ (o : Outcome Holding). o.answer) (held_by m (number_of (some q)) r z h) ∙ last_answer m q e;
  number = refl;
  serial = refl;
  voltages = refl;
  of_s1 = refl;
  of_s3 = refl;
  sag = refl;
  surge = refl;
}

pub hold_refused : (m : Module) (q : Port) (r : Result Holding Refusal) (z : Module) → Holds m (number_of (some q)) r z → m.meter.work.any ≡ false → answer_of r ≡ refused 14
hold_refused m q r z h e = ap (λ (o : Outcome Holding). o.answer) (held_by m (number_of (some q)) r z h) ∙ none_told m q e
