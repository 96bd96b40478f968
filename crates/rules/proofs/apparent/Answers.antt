-- `apparent` meets its contract.
use borrow.Author.Rules.{rules}
use native.Mathlib.Omega.{arith}
use Rattle.rules.specs.Rules.{apparent_of}
use Rattle.number.proofs.Fits.{product_room}
use Rattle.rules.proofs.apparent.Goals as goal

pub overflow_mul-result : goal.overflow_mul-result
overflow_mul-result c = record { fits = product_room c.args.v c.args.i (omega arith) (omega arith) }

pub returns : goal.returns
unfolding apparent_of
returns c = search rules
