-- `begun` meets its contract.
use Rattle.desk.specs.Desks.{empty_card}
use borrow.Author.Rules.{rules}
use Rattle.desk.proofs.Desk.begun.Goals as goal

pub returns : goal.returns
unfolding empty_card
returns c = search rules
