-- `Section::distinct` meets its contract: j entries have no serial of an entry before them; i entries differ from entry j.
use mathlib.Core.Path.{◌≡◌}
use mathlib.Core.Bool.{true, not}
use Prim.Native.Nat.{ℕ}
use Rattle.serial.specs.Every.{every}
use Rattle.section.specs.Sections.{same, serial_at, fresh}
use Rattle.section.proofs.Section.distinct.Given as goal

abbrev pub invariant-loop-i : goal.invariant-loop-i
invariant-loop-i l = every (λ (m : ℕ). not (same (serial_at l.b l.self m) (serial_at l.b l.self l.j))) l.i ≡ true

abbrev pub invariant-loop-j : goal.invariant-loop-j
invariant-loop-j l = every (fresh l.b l.self) l.j ≡ true
