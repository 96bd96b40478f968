-- `vrms` meets its contract.
use Rattle.rules.specs.Source.{vrms_of}
use Rattle.rules.proofs.vrms.Goals as goal

pub returns : goal.returns
unfolding vrms_of
returns c = c.root_mean_square.ensures
