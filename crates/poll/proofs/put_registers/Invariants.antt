-- `poll::put_registers` meets its contract: so many registers stand behind one another.
use mathlib.Core.Path.{◌≡◌}
use lib.ListN.{length, take}
use Rattle.serial.specs.Places.{put}
use Rattle.card.specs.Cards.{fields_bytes}
use Rattle.poll.proofs.put_registers.Given as goal

abbrev pub invariant-loop-k : goal.invariant-loop-k
invariant-loop-k l =
    (length l.out ≡ length l.initial.out) × (l.out ≡ put l.initial.out 2 (fields_bytes (take l.k l.values)))
