-- `within` meets its contract.
use Rattle.sample.specs.Sums.{clips_within}
use mathlib.Core.Path.{refl}
use Rattle.sample.proofs.Clips.within.Goals as goal

pub returns : goal.returns
unfolding clips_within
returns c = refl
