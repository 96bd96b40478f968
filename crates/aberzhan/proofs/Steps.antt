-- Laws of the steps: what the code leaves is what the step's definition gives.
use Prim.Native.Nat.{ℕ}
use mathlib.Core.Path.{◌≡◌, refl, ap, ◌∙◌}
use mathlib.Core.List.{List}
use Rattle.std.specs.Prelude.{Result}
use Rattle.std.specs.Result.{IsErrAnd}
use Rattle.refusal.specs.declared.Refusal.{Refusal}
use Rattle.refusal.specs.Numbers.{number_of}
use Rattle.steps.specs.Answers.{OrRefusal, refused, accepted, and_then, answer_of}
use Rattle.steps.specs.Gauge.{Metering}
use Rattle.steps.specs.Port.{Port, port0, port1}
use Rattle.steps.proofs.Answers.{handed_on}
use Rattle.card.specs.declared.Card.{Card}
use Rattle.interval.specs.declared.Closed.{Closed}
use Rattle.alarm.specs.Alarms.{Watching}
use Rattle.meter.specs.Core.{core}
use Rattle.meter.specs.Blocks.{wait_of, fed, volts_in}
use Rattle.desk.specs.Desks.{shut_desk}
use Rattle.port.specs.declared.Held.{Held}
use Rattle.aberzhan.specs.declared.Module.{Module}
use Rattle.aberzhan.specs.declared.Holding.{Holding}
use Rattle.aberzhan.specs.Module.{Outcome, refusal, with_desk, with_held, with_meter, holding}

-- what `?` hands on is the refusal, and the module stays
pub stays : {A : Type 0} (m : Module) (r : Result A Refusal) (e : Refusal) → IsErrAnd r (λ x. x ≡ e) →
    ◌≡◌ {A = Outcome A} (record { answer = answer_of r; after = m }) (refusal (number_of e) m)
stays {A} m r e h = ap (λ (x : OrRefusal A). record { answer = x; after = m }) (handed_on r e h)

module _ (m d : Module) (s : Port) where
  -- the desk is shut first, and then the card waits
  pub waits : (c : Card) → d ≡ with_desk s shut_desk m → with_meter (wait_of c d.meter) d ≡ with_meter (wait_of c m.meter) (with_desk s shut_desk m)
  waits c e = ap (λ (d : Module). with_meter (wait_of c d.meter) d) e ∙ by s
    where
      by : (s : Port) → let d = with_desk s shut_desk m in with_meter (wait_of c d.meter) d ≡ with_meter (wait_of c m.meter) d
      by port0 = refl
      by port1 = refl

  -- the hold is put first, and then the alarms are told
  abbrev told : Held → Module → Outcome Holding
  told h d = record {
    answer = accepted (record { number = h.closed.number; serial = h.closed.serial; clips = h.closed.clips; alarms = d.watch.alarms });
    after = d;
  }

  pub holds : (h : Held) → d ≡ with_held s h m → told h d ≡ holding m s (accepted h)
  holds h e = ap (told h) e ∙ by s
    where
      by : (s : Port) → told h (with_held s h m) ≡ holding m s (accepted h)
      by port0 = refl
      by port1 = refl

-- a block that is refused leaves the voltages
pub volts_stay : (q : Watching) (b : OrRefusal (Metering core × List Closed)) (n : ℕ) → refused n ≡ and_then b fed → volts_in q b ≡ q.volts
volts_stay q (refused k) n e = refl
volts_stay q (accepted r) n e = absurd cc
