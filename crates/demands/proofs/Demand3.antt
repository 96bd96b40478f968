-- Demand 3 of this module, of every program.
use Prim.Native.Nat.{ℕ, ◌≤◌}
use mathlib.Core.Path.{◌≡◌, refl, sym, ap, subst, ◌∙◌}
use mathlib.Core.Bool.{Bool, true, false, cond, ◌||◌}
use mathlib.Core.List.{List}
use mathlib.Core.Option.{none}
use lib.IntN.{ℤ}
use Rattle.steps.specs.Answers.{refused, accepted}
use Rattle.steps.specs.Port.{Port, port0, port1, on}
use Rattle.steps.specs.Module.{State, fresh}
use Rattle.steps.specs.Run.{run}
use Rattle.steps.specs.Gauge.{newly}
use Rattle.steps.specs.OneCard.{Interval, tagged, intervals, outset, closed_all}
use Rattle.steps.specs.Calls.{Reply, refuses, done}
use Rattle.steps.proofs.Sound.{SoundState, always_sound}
use Rattle.steps.proofs.Calls.{calls_demand3}
use Rattle.steps.proofs.Promise.{promise}
use Rattle.address.specs.declared.WordAddr.{WordAddr}
use Rattle.sample.specs.Sums.{Sample}
use Rattle.alarm.specs.declared.Limits.{Limits}
use Rattle.alarm.specs.Alarms.{both}
use Rattle.alarm.specs.Starting.{fresh_watch, no_volts}
use Rattle.halfcycle.specs.Inside.{Good}
use Rattle.halfcycle.proofs.Tests.{good_yes}
use Rattle.meter.specs.Core.{core, samples_of}
use Rattle.meter.specs.Starting.{no_card, fresh_work, fresh_of}
use Rattle.meter.proofs.Sound.{sound_yes}
use Rattle.meter.proofs.Starts.{fresh_sound}
use Rattle.aberzhan.specs.declared.Module.{Module}
use Rattle.calls.specs.Ports.{ports, aberzhan}
use Rattle.aberzhan.specs.Module.{Outcome, watch_of, fresh_module}
use Rattle.calls.specs.Calls.{state_of, module_of, call_block, step_reply}
use Rattle.calls.proofs.Soundness.{SoundModule, sounds, shut_phased, from_start}
use Rattle.calls.proofs.Contracts.{Allows, methods, start_is, allowed_is}
use Rattle.calls.proofs.Agreement.{does, eighteen}
use Rattle.demands.specs.Program.{Program, first, calls, steps, ran, closes}
use Rattle.demands.specs.Demand3.{ModuleDemand3}
use Rattle.demands.proofs.Turns.{took_ran}

-- ---- what a start returns is a fresh module, taken or refused
abbrev pub OfFresh : (Module → Type 0) → Type 0
OfFresh P =
    (n b : ℕ) (track : List WordAddr) (config : ℕ) (t : Limits) → 1 ≤ n → n ≤ 4096 → Good (fresh_watch t) no_volts → P (fresh_module (fresh_of n b track config) (fresh_watch t))

pub of_start : (P : Module → Type 0) → OfFresh P → (p : Program) → P (first p)
of_start P f p =
    subst (λ (r : Outcome (Unit {0})). P r.after) (sym (start_is p.n p.b p.track p.asked p.config p.started p.start_allowed))
    (from_start P f p.n p.b p.track p.asked p.config)

-- the state of a fresh module with this work and this watch
abbrev fresh_with : Module → State aberzhan
fresh_with z = fresh aberzhan (newly core no_card z.meter.work (watch_of z))

record FreshState (z : Module) : Type 0 where
  begins : state_of z ≡ fresh_with z
  good : SoundState aberzhan sounds (fresh_with z)

fresh_good : (n b : ℕ) (track : List WordAddr) (config : ℕ) (t : Limits) → 1 ≤ n → n ≤ 4096 → Good (fresh_watch t) no_volts →
    SoundState aberzhan sounds (fresh aberzhan (newly core no_card (fresh_work n b track config) (both (fresh_watch t) no_volts)))
unfolding fresh_of
fresh_good n b track config t n1 n2 g = record { meter = (fresh_sound n b track config n1 n2, g); desks = by }
  where
    by : (p : Port) → sounds.OfDesk (on (fresh aberzhan (newly core no_card (fresh_work n b track config) (both (fresh_watch t) no_volts))).desks p)
    by port0 = shut_phased
    by port1 = shut_phased

fresh_state : OfFresh FreshState
unfolding fresh_module fresh_of
fresh_state n b track config t n1 n2 g = record { begins = refl; good = fresh_good n b track config t n1 n2 g }

begun : (p : Program) → FreshState (first p)
begun p = of_start FreshState fresh_state p

-- ---- the module that is left
end_sound : (p : Program) → state_of p.log.end ≡ (ran p).end → SoundModule p.log.end
end_sound p e =
    let f = begun p in
    (subst (SoundState aberzhan sounds) (sym e) (always_sound aberzhan sounds (steps p) (state_of (first p)) (subst (SoundState aberzhan sounds) (sym f.begins) f.good))).meter

reply_by : (b : Bool) → step_reply (cond b (accepted tt) (refused 18)) ≡ cond b done (refuses 18)
reply_by true = refl
reply_by false = refl

block_18 : (m : Module) → SoundModule m → (v s1 s3 : List ℤ) (xs : List Sample) (o : Reply aberzhan × Module) → samples_of v s1 s3 ≡ accepted xs → Allows (call_block v s1 s3) m o →
    o.0 ≡ cond (m.meter.waits || m.meter.forced) done (refuses 18)
block_18 m h v s1 s3 xs o e a =
    ap (λ (o : Reply aberzhan × Module). o.0) (allowed_is (call_block v s1 s3) m o a)
    ∙ ap step_reply (eighteen m v s1 s3 xs h e)
    ∙ reply_by (m.meter.waits || m.meter.forced)

pub module_demand3 : ModuleDemand3
module_demand3 p =
    let f = begun p in
    let z = first p in
    let d = calls_demand3 aberzhan sounds methods does (newly core no_card z.meter.work (watch_of z)) z f.begins f.good (calls p) p.log (took_ran p.turns_allowed) in
    let s = end_sound p d.end in
    record {
      begins = f.begins;
      log_of_calls = took_ran p.turns_allowed;
      as_calls = d;
      same_struct = λ short r. ap module_of (d.same_state short r);
      promise = promise core ports no_card z.meter.work (watch_of z) (steps p);
      sound = sound_yes p.log.end.meter s.0;
      sound_watch = good_yes p.log.end.watch p.log.end.volts s.1;
      eighteen = block_18 p.log.end s;
    }

-- ---- the closed intervals, from the history alone
abbrev pub closed_from : Program → List (Interval core)
closed_from p = intervals core (tagged core ports none (ran p).history) (outset core (first p).meter.work)

pub one_card_each : (p : Program) → closes p ≡ closed_all core (closed_from p) (first p).meter.work
one_card_each p =
    let d = module_demand3 p in
    let w = (first p).meter.work in
    subst (λ (s : State aberzhan). let r = run aberzhan (steps p) s in r.closed ≡ closed_all core (intervals core (tagged core ports none r.history) (outset core w)) w)
    (sym d.begins) d.promise.one_card
