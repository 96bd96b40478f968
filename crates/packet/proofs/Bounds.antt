-- A command has two parameters at most.
use Prim.Native.Nat.{ℕ, ◌≤◌}
use mathlib.Core.Bool.{Bool, true, false, cond, ◌||◌}
use native.Mathlib.Omega.{arith}
use lib.Dec.{eqb}
use Rattle.packet.specs.Commands.{parameters}

two_of : (a b : Bool) → cond a 2 (cond b 1 0) ≤ 2
two_of true b = omega arith
two_of false true = omega arith
two_of false false = omega arith

pub parameters_most : (c : ℕ) → parameters c ≤ 2
unfolding parameters
parameters_most c = two_of (eqb c 0xA3) (eqb c 0xA1 || eqb c 0xA2 || eqb c 0xCF || eqb c 0xE0)
