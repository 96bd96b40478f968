-- `wait` meets its contract.
use mathlib.Core.Path.{refl}
use Rattle.meter.specs.Blocks.{wait_of}
use Rattle.meter.proofs.Meter.wait.Goals as goal

pub returns : goal.returns
unfolding wait_of
returns c = refl
