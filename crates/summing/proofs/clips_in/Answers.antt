-- `clips_in` meets its contract.
use Rattle.summing.specs.Inside.{unpacked}
use mathlib.Core.Path.{refl}
use Rattle.summing.proofs.clips_in.Goals as goal

pub returns : goal.returns
unfolding unpacked
returns c = refl
