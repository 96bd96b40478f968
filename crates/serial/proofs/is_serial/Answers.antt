-- `serial::is_serial` meets its contract.
use Rattle.std.proofs.Common.{arith}
use Rattle.std.proofs.lemmas.Grind.{common_steps}
use Rattle.serial.specs.Serials.{is_serial}
use Rattle.serial.proofs.is_serial.Goals as goal

pub returns-then-contains : goal.returns-then-contains
unfolding is_serial
returns-then-contains c = grind (arith, common_steps)

pub returns-else-contains : goal.returns-else-contains
unfolding is_serial
returns-else-contains c = grind (arith, common_steps)
