-- `sums_after` meets its contract.
use Rattle.summing.specs.Inside.{tallied}
use Rattle.summing.proofs.sums_after.Goals as goal

pub returns : goal.returns
unfolding tallied
returns c = rw c.clips_in-clips.ensures
