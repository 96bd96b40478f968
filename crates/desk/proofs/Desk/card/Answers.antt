-- `card` meets its contract.
use Rattle.desk.specs.Desks.{card_on}
use borrow.Author.Rules.{rules}
use Rattle.desk.proofs.Desk.card.Goals as goal

pub returns : goal.returns
unfolding card_on
returns c = search rules
