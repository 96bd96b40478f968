-- `emptied` meets its contract.
use Rattle.sample.specs.Sums.{emptied}
use Rattle.sample.proofs.Sums.emptied.Goals as goal

pub returns : goal.returns
unfolding emptied
returns c = rw c.none.ensures
