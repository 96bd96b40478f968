-- `Section::entries_ok` meets its contract: each of k entries is what it must be.
use mathlib.Core.Path.{◌≡◌}
use mathlib.Core.Bool.{true}
use Prim.Native.Nat.{ℕ}
use Rattle.serial.specs.Every.{every}
use Rattle.section.specs.Sections.{entry_at, entry_ok}
use Rattle.section.proofs.Section.entries_ok.Given as goal

abbrev pub invariant-loop-k : goal.invariant-loop-k
invariant-loop-k l = every (λ (i : ℕ). entry_ok l.self.kind (entry_at l.b l.self i)) l.k ≡ true
