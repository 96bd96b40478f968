-- `serial::copy_in` meets its contract: k bytes of xs stand in b.
use mathlib.Core.Path.{◌≡◌}
use lib.Seq.{paste}
use Rattle.serial.proofs.copy_in.Given as goal

abbrev pub invariant-loop-k : goal.invariant-loop-k
invariant-loop-k l = l.b ≡ paste l.initial.b l.at l.xs l.k
