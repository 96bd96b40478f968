-- `change::move_up` meets its contract: the bytes from i on are moved.
use Prim.Native.Nat.{◌+◌, ◌-◌, ◌≤◌}
use mathlib.Core.Path.{◌≡◌}
use Rattle.serial.specs.Places.{part, put}
use Rattle.change.proofs.move_up.Given as goal

abbrev pub invariant-loop-i : goal.invariant-loop-i
invariant-loop-i l = (l.from ≤ l.i) × (l.b ≡ put l.initial.b (l.i + l.by) (part l.initial.b l.i (l.to - l.i)))
