-- `serial::all_digits` meets its contract: the loop gathers one test for each byte passed.
use Prim.Native.Nat.{ℕ}
use mathlib.Core.Path.{◌≡◌}
use lib.ListN.{get_or}
use Rattle.serial.specs.Serials.{is_digit}
use Rattle.serial.specs.Every.{every}
use Rattle.serial.proofs.all_digits.Given as goal

abbrev pub invariant-loop-k : goal.invariant-loop-k
invariant-loop-k l = l.ok ≡ every (λ (i : ℕ). is_digit (get_or l.text i 0)) l.k
