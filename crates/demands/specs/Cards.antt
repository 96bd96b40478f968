-- Which cards the module shows: none at first, and after a program those that its steps leave, the one in force and the one that waits.
use Rattle.std.specs.Prelude.{◌≡◌, cond}
use Rattle.std.proofs.Math.Option.{Option, none, some}
use Rattle.steps.specs.Gauge.{Meter, in_force}
use Rattle.serial.specs.declared.Serial.{Serial}
use Rattle.serial.specs.Serials.{no_serial}
use Rattle.card.specs.declared.Card.{Card}
use Rattle.meter.specs.Core.{core}
use Rattle.aberzhan.specs.declared.Cards.{Cards}
use Rattle.calls.proofs.Contracts.{Shows}
use Rattle.demands.specs.Program.{Program, first, ran}

-- the card that waits
abbrev pub in_wait : Meter core → Option Card
in_wait m = cond m.waits (some m.waiting) none

abbrev pub serial_shown : Option Card → Serial
serial_shown none = no_serial
serial_shown (some c) = c.serial

-- r is anything that the contract of `Module::cards` allows
pub record ShowsCards (p : Program) : Type 0 where
  pub none_at_first : (r : Cards) → Shows (first p) r → r ≡ record { force = no_serial; waiting = no_serial }
  pub force : (r : Cards) → Shows p.log.end r → r.force ≡ serial_shown (in_force core (ran p).end.meter.intervals)
  pub waiting : (r : Cards) → Shows p.log.end r → r.waiting ≡ serial_shown (in_wait (ran p).end.meter.intervals)

abbrev pub CardsShown : Type 0
CardsShown = (p : Program) → ShowsCards p
