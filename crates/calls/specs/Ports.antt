-- What stands at the two ports: desks and holds, as the ports of crate `steps`; and with them the module, whose steps are that crate's `step`.
use Rattle.std.specs.Prelude.{ℕ, ◌≡◌, refl}
use Rattle.steps.specs.Answers.{refused, and_then}
use Rattle.steps.specs.Parts.{Parts}
use Rattle.steps.specs.Gauge.{Ports, Metering, parts_of}
use Rattle.card.specs.declared.Card.{Card}
use Rattle.address.specs.declared.ByteAddr.{ByteAddr}
use Rattle.meter.specs.Core.{core}
use Rattle.desk.specs.declared.Desk.{Desk}
use Rattle.port.specs.declared.Held.{Held}
use Rattle.desk.specs.Desks.{Edit, shut_desk, edited, finished, discarded}
use Rattle.port.specs.Holds.{Value, register, nothing_held, copied, told}
use Rattle.port.specs.Reading.{look}

-- where nothing is held, every read is refused
pub nothing_read : (a : ByteAddr) → (n : ℕ) × (and_then (look nothing_held a) register ≡ refused n)
unfolding look
nothing_read a = (15, refl)

-- there is one kind of hold; it tells the alarms as they are when it is taken
abbrev pub ports : Ports (Metering core) Card
ports = record {
  Desk = Desk;
  Edit = Edit;
  Held = Held;
  HoldKind = Unit {0};
  Address = ByteAddr;
  Value = Value;
  shut = shut_desk;
  edited = edited;
  finished = finished;
  discarded = discarded;
  unheld = nothing_held;
  copy = λ k m. copied m.intervals.work.any m.intervals.work.last m.intervals.work.settings.track;
  told = λ k m h. told m.watch.watch.alarms h;
  look = λ h a. and_then (look h a) register;
  unheld_refuses = nothing_read;
}

abbrev pub aberzhan : Parts
aberzhan = parts_of core ports
