-- `level_of` meets its contract.
use Prim.Native.Nat.{◌*◌, ◌≤◌}
use native.Mathlib.Omega.{arith}
use native.Mathlib.Nat.{mul-le-mul}
use Rattle.halfcycle.proofs.level_of.Goals as goal
use Rattle.halfcycle.proofs.level_of.Goals.{Start}

squared : (c : Start) → c.args.level * c.args.level ≤ 8388607 * 8388607
squared c = mul-le-mul c.requires.1 c.requires.1

pub overflow_mul-result : goal.overflow_mul-result
overflow_mul-result c = record { fits = omega (arith, squared c) }

pub overflow_mul-result-2 : goal.overflow_mul-result-2
overflow_mul-result-2 c = record { fits = omega (arith, mul-le-mul c.requires.0 (squared c)) }
