-- `typed::hold` meets its contract.
use Rattle.std.proofs.Common.{arith}
use Rattle.std.proofs.lemmas.Grind.{common_steps}
use Rattle.typed.specs.Values.{held}
use Rattle.typed.proofs.hold.Goals as goal

pub returns : goal.returns
unfolding held
returns c = grind (arith, common_steps)
