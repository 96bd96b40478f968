-- `card::values_fit` meets its contract: the loop gathers one test for each value.
use Prim.Native.Nat.{ℕ}
use mathlib.Core.Path.{◌≡◌}
use lib.IntN.{pos}
use lib.ListN.{get_or}
use Rattle.serial.specs.Every.{every}
use Rattle.card.specs.Fields.{fits_field}
use Rattle.card.proofs.values_fit.Given as goal

abbrev pub invariant-loop-k : goal.invariant-loop-k
invariant-loop-k l = l.ok ≡ every (λ (i : ℕ). fits_field i (get_or l.values i (pos 0))) l.k
