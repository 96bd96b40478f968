-- `ipeak` meets its contract.
use Rattle.rules.specs.Source.{ipeak_of}
use Rattle.rules.proofs.ipeak.Goals as goal

pub returns : goal.returns
unfolding ipeak_of
returns c = c.cap.ensures
