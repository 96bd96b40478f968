-- `Source::join_plus` meets its contract: of the source only the record that is lent changes, as `energy::advance` says.
use Rattle.std.proofs.Common.{rules}
use Rattle.interval.specs.Close.{with_plus}
use Rattle.interval.proofs.Source.join_plus.Goals as goal

pub returns : goal.returns
unfolding with_plus
returns c = search rules
