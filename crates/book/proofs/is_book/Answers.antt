-- `book::is_book` meets its contract.
use mathlib.Core.Path.{sym, ◌∙◌}
use mathlib.Core.Bool.{false≢true}
use Rattle.book.specs.Book.{well_formed}
use Rattle.book.proofs.is_book.Goals as goal
use Rattle.book.proofs.is_book.Goals.{then-sized, else-sized}

pub returns-then-is_ok : goal.returns-then-is_ok
unfolding well_formed
returns-then-is_ok c = elim c.if-sized.branch [
  | then-sized w ↦
      let cards = rw w.cards.ensures.0 at (sym w.is_ok.ensures ∙ sym w.value-is ∙ c.if-is_ok.true) in
      simp (sym c.sized.ensures ∙ w.if-sized.true, cards) (rw c.withdrawn.ensures.0 at c.is_ok-then-is_ok.ensures)
  | else-sized w ↦ absurd (false≢true (sym w.if-sized.false ∙ sym w.value-is ∙ c.if-is_ok.true))
]

pub returns-else-is_ok : goal.returns-else-is_ok
unfolding well_formed
returns-else-is_ok c = elim c.if-sized.branch [
  | then-sized w ↦
      let cards = rw w.cards.ensures.0 at (sym w.is_ok.ensures ∙ sym w.value-is ∙ c.if-is_ok.false) in
      simp (sym c.sized.ensures ∙ w.if-sized.true, cards) c.if-is_ok.false
  | else-sized w ↦ simp (sym c.sized.ensures ∙ w.if-sized.false) c.if-is_ok.false
]
