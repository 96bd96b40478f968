-- `packet::no_packet` meets its contract.
use Rattle.packet.specs.Packets.{no_packet}
use Rattle.packet.proofs.no_packet.Goals as goal

pub returns : goal.returns
unfolding no_packet
returns c = rw (c.byte_at-header.ensures, c.byte_at-count.ensures)
