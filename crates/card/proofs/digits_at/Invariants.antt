-- `card::digits_at` meets its contract: the loop fills the twelve places.
use Prim.Native.Nat.{ℕ, ◌+◌}
use mathlib.Core.Path.{◌≡◌}
use lib.ListN.{length, get_or, take}
use Rattle.serial.specs.Places.{tab}
use Rattle.card.proofs.digits_at.Given as goal

abbrev pub invariant-loop-k : goal.invariant-loop-k
invariant-loop-k l = (length l.d ≡ 12) × (take l.k l.d ≡ tab (λ (i : ℕ). get_or l.c (1 + i) 0) l.k)
