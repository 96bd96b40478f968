-- `listing::text_of` meets its contract.
use Rattle.serial.specs.Places.{part}
use Rattle.serial.specs.Serials.{text_of}
use Rattle.listing.proofs.text_of.Goals as goal

pub returns : goal.returns
unfolding text_of part
returns c = rw c.byte_at-n.ensures at c.part_of.ensures
