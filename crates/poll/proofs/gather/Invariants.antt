-- `poll::gather` meets its contract: what is gathered so far, with what the commands to come ask for.
use Prim.Native.Nat.{◌-◌}
use mathlib.Core.Path.{◌≡◌}
use lib.ListN.{length, drop}
use Rattle.packet.specs.Commands.{asked_from}
use Rattle.poll.specs.Polls.{read_at}
use Rattle.poll.specs.Inside.{gathers}
use Rattle.poll.proofs.gather.Given as goal

abbrev pub invariant-loop-at : goal.invariant-loop-at
invariant-loop-at l =
    gathers (read_at l.h) l.g (asked_from (drop l.at l.commands) 0 l.d) ≡ gathers (read_at l.h) l.initial.g (asked_from l.commands 0 l.initial.d)

abbrev pub decreases-loop-at : goal.decreases-loop-at
decreases-loop-at l = length l.commands - l.at
