-- `serial::holds_serial` meets its contract: the loop gathers one test for each of the twelve places.
use Prim.Native.Nat.{ℕ, ◌+◌}
use mathlib.Core.Path.{◌≡◌}
use mathlib.Core.Bool.{◌&&◌}
use lib.ListN.{get_or}
use lib.Dec.{leb}
use Rattle.serial.specs.Serials.{place_ok}
use Rattle.serial.specs.Every.{every}
use Rattle.serial.proofs.holds_serial.Given as goal

abbrev pub invariant-loop-k : goal.invariant-loop-k
invariant-loop-k l = l.ok ≡ (leb 1 l.n && leb l.n 12 && every (λ (i : ℕ). place_ok l.n i (get_or l.e (1 + i) 0)) l.k)
