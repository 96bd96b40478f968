-- `Section::first` meets its contract: none of k entries has the serial.
use mathlib.Core.Path.{◌≡◌}
use mathlib.Core.Bool.{true, not}
use Prim.Native.Nat.{ℕ}
use Rattle.serial.specs.Every.{every}
use Rattle.section.specs.Sections.{same, serial_at}
use Rattle.section.proofs.Section.first.Given as goal

abbrev pub invariant-loop-k : goal.invariant-loop-k
invariant-loop-k l = every (λ (i : ℕ). not (same (serial_at l.b l.self i) l.key)) l.k ≡ true
