-- `put_bytes` puts bytes. Those that are put and the rest make up the whole.
use Prim.Native.Nat.{◌+◌, ◌*◌}
use mathlib.Core.Path.{◌≡◌}
use mathlib.Core.List.{◌++◌}
use lib.ListN.{length, take, drop}
use Rattle.console.specs.Answers.{bytes_text}
use Rattle.console.proofs.output.put_bytes.Given as goal

abbrev pub invariant-loop-b : goal.invariant-loop-b
invariant-loop-b l =
    (l.at ≡ l.used + 3 * l.b-index) × (length l.out ≡ length l.initial.out) × (take l.at l.out ++ bytes_text (drop l.b-index l.bytes) ≡ take l.used l.initial.out ++ bytes_text l.bytes)
