-- Which cards a module has: the serial of the one in force, and of the one that waits.
use Rattle.std.specs.Prelude.{Bool, cond}
use Rattle.serial.specs.declared.Serial.{Serial}
use Rattle.serial.specs.Serials.{no_serial}
use Rattle.card.specs.declared.Card.{Card}
use Rattle.aberzhan.specs.declared.Module.{Module}
use Rattle.aberzhan.specs.declared.Cards.{Cards}

-- the serial of a card that is there, and none where it is not
abbrev pub serial_if : Bool → Card → Serial
serial_if there c = cond there c.serial no_serial

-- a card that waits is in force from the next interval's first sample on, and waits no more
unfoldable pub cards_of : Module → Cards
cards_of m = record { force = serial_if m.meter.forced m.meter.force; waiting = serial_if m.meter.waits m.meter.waiting }
