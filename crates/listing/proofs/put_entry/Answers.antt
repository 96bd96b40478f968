-- `put_entry` meets its contract.
use Rattle.listing.specs.Lines.{line_at}
use Rattle.listing.proofs.Lines.{part_short}
use Rattle.listing.proofs.put_entry.Goals as goal

pub put_card-requires : goal.put_card-requires
put_card-requires c = (rw c.part_of.ensures (part_short _ _ 37), c.requires)

pub put_serial-requires : goal.put_serial-requires
put_serial-requires c = (rw c.part_of-in-Withdrawn.ensures (part_short _ _ 13), c.requires)

pub returns-in-Card : goal.returns-in-Card
unfolding line_at
returns-in-Card c = rw c.in-Card.is (rw c.part_of.ensures at c.put_card.ensures)

pub returns-in-Withdrawn : goal.returns-in-Withdrawn
unfolding line_at
returns-in-Withdrawn c = rw c.in-Withdrawn.is (rw c.part_of-in-Withdrawn.ensures at c.put_serial.ensures)
