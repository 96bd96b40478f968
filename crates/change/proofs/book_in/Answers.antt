-- `change::book_in` meets its contract.
use borrow.Author.Tests.{lt-leb, le-leb}
use Rattle.change.specs.Change.{book_in}
use Rattle.change.proofs.book_in.Goals as goal

pub returns-then-used-buffer : goal.returns-then-used-buffer
unfolding book_in
returns-then-used-buffer c = simp (le-leb _ _ c.if-used-buffer.true) c.is_book.ensures

pub returns-else-used-buffer : goal.returns-else-used-buffer
unfolding book_in
returns-else-used-buffer c = simp (lt-leb _ _ c.if-used-buffer.false)
