-- `put` meets its contract.
use Rattle.desk.specs.Desks.{with_field}
use borrow.Author.Rules.{rules}
use Rattle.desk.proofs.Desk.put.Goals as goal

pub returns : goal.returns
unfolding with_field
returns c = search rules
