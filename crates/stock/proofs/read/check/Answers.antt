-- `stock::read::check` meets its contract.
use mathlib.Core.Path.{sym, ◌∙◌}
use Rattle.stock.specs.Reading.{check_answer}
use Rattle.stock.proofs.read.check.Goals as goal

pub returns-then-is_book : goal.returns-then-is_book
unfolding check_answer
returns-then-is_book c = simp (sym c.is_book.ensures ∙ c.if-is_book.true)

pub returns-else-is_book : goal.returns-else-is_book
unfolding check_answer
returns-else-is_book c = simp (sym c.is_book.ensures ∙ c.if-is_book.false)
