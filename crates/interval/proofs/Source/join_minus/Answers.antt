-- `Source::join_minus` meets its contract: of the source only the record that is lent changes, as `energy::advance` says.
use Rattle.std.proofs.Common.{rules}
use Rattle.interval.specs.Close.{with_minus}
use Rattle.interval.proofs.Source.join_minus.Goals as goal

pub returns : goal.returns
unfolding with_minus
returns c = search rules
