-- `tally_of` meets its contract.
use Rattle.summing.specs.Inside.{packed, tally_of}
use mathlib.Core.Path.{refl}
use Rattle.summing.proofs.tally_of.Goals as goal

pub returns : goal.returns
unfolding tally_of packed
returns c = refl
