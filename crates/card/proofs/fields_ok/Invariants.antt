-- `card::fields_ok` meets its contract: the loop gathers one test for each field.
use Prim.Native.Nat.{ℕ}
use mathlib.Core.Path.{◌≡◌}
use Rattle.serial.specs.Every.{every}
use Rattle.card.specs.Fields.{fits_field}
use Rattle.card.specs.Cards.{field_at}
use Rattle.card.proofs.fields_ok.Given as goal

abbrev pub invariant-loop-k : goal.invariant-loop-k
invariant-loop-k l = l.ok ≡ every (λ (i : ℕ). fits_field i (field_at l.c i)) l.k
