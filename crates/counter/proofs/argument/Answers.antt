-- `counter::argument` meets its contract.
use native.Mathlib.Omega.{arith}
use Rattle.counter.proofs.argument.Goals as goal

pub returns-in-Err : goal.returns-in-Err
returns-in-Err c = omega arith
