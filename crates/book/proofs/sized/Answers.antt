-- `book::sized` meets its contract.
use Rattle.book.specs.Book.{sized}
use Rattle.book.proofs.sized.Goals as goal

pub returns : goal.returns
unfolding sized
returns c = simp (c.cards-n.ensures.0, c.withdrawn-w.ensures.0)
