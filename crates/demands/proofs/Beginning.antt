-- What a start returns.
use Prim.Native.Nat.{ℕ}
use mathlib.Core.Path.{◌≡◌, refl, sym, subst}
use mathlib.Core.Bool.{Bool, true, false, cond}
use mathlib.Core.List.{List}
use lib.IntN.{ℤ, nat_abs}
use lib.ListN.{replicate}
use Rattle.steps.specs.Answers.{refused, accepted}
use Rattle.address.specs.declared.WordAddr.{WordAddr}
use Rattle.address.specs.Slots.{off}
use Rattle.alarm.specs.declared.Asked.{Asked}
use Rattle.alarm.specs.declared.Limits.{Limits}
use Rattle.alarm.specs.Starting.{limits_of, limits_in, fresh_watch, lowest_limits, lowest_watch}
use Rattle.source.specs.Sources.{Current, IA, IB}
use Rattle.energy.specs.Energies.{no_energy}
use Rattle.interval.specs.Close.{results_of, no_registers}
use Rattle.meter.specs.Starting.{fresh_of, lowest_meter}
use Rattle.aberzhan.specs.Module.{Outcome, refusal, done, fresh_module, settings_ok, start_of}
use Rattle.calls.proofs.Contracts.{start_is}
use Rattle.demands.specs.Beginning.{Fresh, lowest_settings, asked_limits, refused_limits, EveryStart}

-- no energy is counted yet, of either source
pub none_plus : (w : Current) → (results_of w no_registers).plus ≡ no_energy
none_plus IA = refl
none_plus IB = refl

pub none_minus : (w : Current) → (results_of w no_registers).minus ≡ no_energy
none_minus IA = refl
none_minus IB = refl

module _ (n b : ℤ) (track : List WordAddr) (asked : Asked) (config : ℤ) where
  -- `Begins` of what a start comes to, with the settings asked for or the lowest
  record Begun (ok : Bool) (r : Outcome (Unit {0})) : Type 0 where
    answer : r.answer ≡ cond ok (accepted tt) (refused 7)
    settings : r.after.meter.work.settings ≡ cond ok (record { n = nat_abs n; b = nat_abs b; track = track; config = nat_abs config }) lowest_settings
    limits : r.after.watch.limits ≡ cond ok (asked_limits asked) refused_limits
    fresh : Fresh r.after

  fresh_is : (k m : ℕ) (l : List WordAddr) (g : ℕ) (t : Limits) → Fresh (fresh_module (fresh_of k m l g) (fresh_watch t))
  unfolding fresh_module fresh_of
  fresh_is k m l g t = record {
    none_waits = refl;
    none_in_force = refl;
    no_sample = refl;
    none_has_closed = refl;
    plus = none_plus;
    minus = none_minus;
    none_seen = refl;
    no_sum = refl;
    no_volts_yet = refl;
    no_alarm = refl;
    port0_shut = refl;
    port1_shut = refl;
    port0_unheld = refl;
    port1_unheld = refl;
  }

  by_ok : (ok : Bool) → Begun ok (cond ok
      (done (fresh_module (fresh_of (nat_abs n) (nat_abs b) track (nat_abs config)) (fresh_watch (limits_in asked))))
      (refusal 7 (fresh_module lowest_meter lowest_watch)))
  unfolding fresh_module fresh_of limits_of
  by_ok true = record { answer = refl; settings = refl; limits = refl; fresh = fresh_is (nat_abs n) (nat_abs b) track (nat_abs config) (limits_in asked) }
  by_ok false = record { answer = refl; settings = refl; limits = refl; fresh = fresh_is 1 1 (replicate 6 off) 0 lowest_limits }

  starts : Begun (settings_ok n b track asked config) (start_of n b track asked config)
  unfolding start_of
  starts = by_ok (settings_ok n b track asked config)

pub every_start : EveryStart
every_start p =
    let s =
    subst (Begun p.n p.b p.track p.asked p.config (settings_ok p.n p.b p.track p.asked p.config))
    (sym (start_is p.n p.b p.track p.asked p.config p.started p.start_allowed)) (starts p.n p.b p.track p.asked p.config) in
    record { answer = s.answer; settings_are = s.settings; limits_are = s.limits; fresh = s.fresh }
