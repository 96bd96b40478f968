-- The module as the code keeps it, and what each of its steps answers; refusals in document 01's order. A refused step leaves the module as it came.
use Rattle.std.specs.Prelude.{ℕ, Result, List, Bool, cond, ◌&&◌, ℤ, pos, negsuc, nat_abs}
use Rattle.std.proofs.Math.Option.{Option, none, some}
use Rattle.refusal.specs.declared.Refusal.{Refusal}
use Rattle.steps.specs.Answers.{OrRefusal, refused, accepted, answer_of}
use Rattle.steps.specs.Port.{Port, port0, port1, port_of}
use Rattle.card.specs.declared.Card.{Card}
use Rattle.address.specs.declared.WordAddr.{WordAddr}
use Rattle.address.specs.declared.ByteAddr.{ByteAddr}
use Rattle.meter.specs.declared.Meter.{Meter}
use Rattle.address.specs.Slots.{every_slot}
use Rattle.alarm.specs.declared.Asked.{Asked}
use Rattle.alarm.specs.declared.Watch.{Watch}
use Rattle.alarm.specs.Alarms.{Watching, both, clearing}
use Rattle.alarm.specs.Starting.{asked_ok, limits_in, fresh_watch, lowest_watch, no_volts}
use Rattle.meter.specs.declared.Fed.{Fed}
use Rattle.meter.specs.Blocks.{wait_of, block_of as meterBlock, volts_of}
use Rattle.meter.specs.Starting.{numbers_ok, config_ok, fresh_of, lowest_meter}
use Rattle.desk.specs.declared.Desk.{Desk}
use Rattle.port.specs.declared.Held.{Held}
use Rattle.desk.specs.Desks.{shut_desk, opening, writing, finished, dropping}
use Rattle.port.specs.Holds.{nothing_held, copied}
use Rattle.port.specs.Reading.{look}
use Rattle.aberzhan.specs.declared.Module.{Module}
use Rattle.aberzhan.specs.declared.Started.{Started}
use Rattle.aberzhan.specs.declared.Holding.{Holding}

-- ---- answers

-- what a step answers, and the module after it
pub record Outcome (A : Type 0) : Type 0 where
  pub answer : OrRefusal A
  pub after : Module

-- the same of what the code returns and leaves
abbrev pub stepped : {A : Type 0} → Result A Refusal → Module → Outcome A
stepped r m = record { answer = answer_of r; after = m }

abbrev pub started : Started → Outcome (Unit {0})
started r = stepped r.answer r.module

abbrev pub refusal : {A : Type 0} → ℕ → Module → Outcome A
refusal n m = record { answer = refused n; after = m }

abbrev pub done : Module → Outcome (Unit {0})
done m = record { answer = accepted tt; after = m }

-- ---- what a port has

abbrev pub desk_of : Module → Port → Desk
desk_of m port0 = m.desk0
desk_of m port1 = m.desk1

abbrev pub held_of : Module → Port → Held
held_of m port0 = m.hold0
held_of m port1 = m.hold1

abbrev pub with_desk : Port → Desk → Module → Module
with_desk port0 d m = record { meter = m.meter; watch = m.watch; volts = m.volts; desk0 = d; desk1 = m.desk1; hold0 = m.hold0; hold1 = m.hold1 }
with_desk port1 d m = record { meter = m.meter; watch = m.watch; volts = m.volts; desk0 = m.desk0; desk1 = d; hold0 = m.hold0; hold1 = m.hold1 }

abbrev pub with_held : Port → Held → Module → Module
with_held port0 h m = record { meter = m.meter; watch = m.watch; volts = m.volts; desk0 = m.desk0; desk1 = m.desk1; hold0 = h; hold1 = m.hold1 }
with_held port1 h m = record { meter = m.meter; watch = m.watch; volts = m.volts; desk0 = m.desk0; desk1 = m.desk1; hold0 = m.hold0; hold1 = h }

abbrev pub with_meter : Meter → Module → Module
with_meter n m = record { meter = n; watch = m.watch; volts = m.volts; desk0 = m.desk0; desk1 = m.desk1; hold0 = m.hold0; hold1 = m.hold1 }

-- what watches the samples, with its last voltages
abbrev pub watch_of : Module → Watching
watch_of m = both m.watch m.volts

abbrev pub with_watch : Watching → Module → Module
with_watch q m = record {
  meter = m.meter;
  watch = q.watch;
  volts = q.volts;
  desk0 = m.desk0;
  desk1 = m.desk1;
  hold0 = m.hold0;
  hold1 = m.hold1;
}

-- "Ports are 0 and 1"
unfoldable pub port_at : ℤ → Option Port
port_at (pos n) = port_of n
port_at (negsuc n) = none

-- a step at a port; at any other number, what is refused with 8
abbrev pub at_port : {A : Type 0} → Option Port → A → (Port → A) → A
at_port none refusing act = refusing
at_port (some p) refusing act = act p

-- ---- cards

-- what the port's desk says to an act at it
abbrev pub at_desk : Module → Port → OrRefusal Desk → Outcome (Unit {0})
at_desk m p (refused n) = refusal n m
at_desk m p (accepted d) = done (with_desk p d m)

-- open with a serial: 8, 9, 1
unfoldable pub open_of : Module → ℤ → List ℕ → Outcome (Unit {0})
open_of m port text = at_port (port_at port) (refusal 8 m) (λ p. at_desk m p (opening (desk_of m p) text))

-- write field, value: 8, 10, 11, 12
unfoldable pub write_of : Module → ℤ → ℤ → ℤ → Outcome (Unit {0})
write_of m port field v = at_port (port_at port) (refusal 8 m) (λ p. at_desk m p (writing (desk_of m p) field v))

-- commit: 8, 10, 13. The card waits, and the port is closed.
abbrev pub committing : Module → Port → OrRefusal Card → Outcome (Unit {0})
committing m p (refused n) = refusal n m
committing m p (accepted c) = done (with_meter (wait_of c m.meter) (with_desk p shut_desk m))

unfoldable pub commit_of : Module → ℤ → Outcome (Unit {0})
commit_of m port = at_port (port_at port) (refusal 8 m) (λ p. committing m p (finished (desk_of m p)))

-- drop: 8, 10
unfoldable pub drop_of : Module → ℤ → Outcome (Unit {0})
drop_of m port = at_port (port_at port) (refusal 8 m) (λ p. at_desk m p (dropping (desk_of m p)))

-- ---- readings

-- hold: 8, 14. Returns the interval's number, its serial and its counts of clipped samples, and the alarms as they are now; replaces an earlier
-- hold.
abbrev pub holding : Module → Port → OrRefusal Held → Outcome Holding
holding m p (refused n) = refusal n m
holding m p (accepted h) = record {
  answer = accepted (record { number = h.closed.number; serial = h.closed.serial; clips = h.closed.clips; alarms = m.watch.alarms });
  after = with_held p h m;
}

unfoldable pub hold_of : Module → ℤ → Outcome Holding
hold_of m port =
    let w = m.meter.work in
    at_port (port_at port) (refusal 8 m) (λ p. holding m p (copied w.any w.last w.settings.track))

-- read byte address: 8, 15, 16, 17
unfoldable pub read_of : Module → ℤ → ByteAddr → OrRefusal ℤ
read_of m port a = at_port (port_at port) (refused 8) (λ p. look (held_of m p) a)

-- ---- samples, a reset, and the start

-- block, of voltages and both inputs: 5, 6, 18; volts: the watch's voltages after it
abbrev pub feeding : Module → List ℤ → OrRefusal Fed → Outcome (Unit {0})
feeding m volts (refused n) = refusal n m
feeding m volts (accepted f) = done (with_meter f.meter (with_watch (both f.watch volts) m))

unfoldable pub block_of : Module → List ℤ → List ℤ → List ℤ → Outcome (Unit {0})
block_of m v s1 s3 = let q = watch_of m in feeding m (volts_of m.meter q v s1 s3) (meterBlock m.meter q v s1 s3)

-- reset: 12
abbrev pub resetting : Module → OrRefusal Watch → Outcome (Unit {0})
resetting m (refused n) = refusal n m
resetting m (accepted a) = done (with_watch (both a m.volts) m)

unfoldable pub reset_of : Module → ℤ → Outcome (Unit {0})
reset_of m mask = resetting m (clearing m.watch mask)

-- no voltage has come, no port is open, nothing is held
unfoldable pub fresh_module : Meter → Watch → Module
fresh_module m a = record { meter = m; watch = a; volts = no_volts; desk0 = shut_desk; desk1 = shut_desk; hold0 = nothing_held; hold1 = nothing_held }

-- start: 7, if any setting is out of range; then all are at their lowest
unfoldable pub settings_ok : ℤ → ℤ → List WordAddr → Asked → ℤ → Bool
settings_ok n b track asked config = numbers_ok n b && every_slot track && asked_ok asked && config_ok config

unfoldable pub start_of : ℤ → ℤ → List WordAddr → Asked → ℤ → Outcome (Unit {0})
start_of n b track asked config =
    cond (settings_ok n b track asked config)
    (done (fresh_module (fresh_of (nat_abs n) (nat_abs b) track (nat_abs config)) (fresh_watch (limits_in asked))))
    (refusal 7 (fresh_module lowest_meter lowest_watch))
