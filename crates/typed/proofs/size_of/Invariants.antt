-- `typed::size_of` meets its contract: the loop takes one digit after another.
use Prim.Native.Nat.{◌≤◌}
use mathlib.Core.Path.{◌≡◌}
use Rattle.typed.specs.Values.{numeral, held}
use Rattle.typed.proofs.size_of.Given as goal

abbrev pub invariant-loop-d : goal.invariant-loop-d
invariant-loop-d l = (l.n ≡ held (numeral l.text l.d-index)) × (l.n ≤ 100000000)
