-- `packet::sum_of` meets its contract.
use Rattle.std.proofs.Common.{◌+◌, ◌%◌, ◌≡◌, drop}
use Rattle.packet.specs.Packets.{sum_of}
use Rattle.packet.proofs.sum_of.Given as goal

abbrev pub invariant-loop-b : goal.invariant-loop-b
invariant-loop-b l = (l.sum + sum_of (drop l.b-index l.bytes)) % 256 ≡ sum_of l.bytes % 256
