-- `poll::read_on` meets its contract: what is gathered so far, with what is left to read.
use Prim.Native.Nat.{◌+◌, ◌-◌, ◌*◌}
use mathlib.Core.Path.{◌≡◌}
use Rattle.packet.specs.Commands.{registers_from}
use Rattle.poll.specs.Polls.{read_at}
use Rattle.poll.specs.Inside.{read_into}
use Rattle.poll.proofs.read_on.Given as goal

abbrev pub invariant-loop-k : goal.invariant-loop-k
invariant-loop-k l = read_into (read_at l.h) (registers_from (l.pointer + 3 * l.k) (l.n - l.k)) l.got ≡ read_into (read_at l.h) (registers_from l.pointer l.n) l.initial.got
