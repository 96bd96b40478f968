-- `change::enter` meets its contract.
use mathlib.Core.Path.{◌≡◌, sym, ap, ◌∙◌}
use lib.Dec.{eqb}
use borrow.Author.Rules.{rules}
use Rattle.std.specs.Prelude.{Err}
use Rattle.book.specs.Answers.{Answer, answer_of}
use Rattle.book.proofs.Answers.{refused_number}
use Rattle.change.specs.Change.{buffer_after}
use Rattle.change.proofs.Answers.{takes}
use Rattle.change.proofs.enter.Goals as goal

pub returns-in_err-longer : goal.returns-in_err-longer
unfolding buffer_after
returns-in_err-longer c =
    let refused = c.in_err-longer.ensures in
    let same : c.from_residual.result ≡ Err c.in_err-longer.field-0.0 = search rules in
    (ap answer_of same ∙ refused, simp (ap (λ (x : Answer). eqb x.number 0) (sym refused) ∙ refused_number c.in_err-longer.field-0.0))

pub insert-requires : goal.insert-requires
insert-requires c =
    let accepted = c.in_ok-longer.ensures in
    takes _ _ _ _ _ _ c.requires (ap (λ (x : Answer). x.number) (sym accepted))

pub returns : goal.returns
unfolding buffer_after
returns c =
    let accepted = c.in_ok-longer.ensures in
    let none = ap (λ (x : Answer). eqb x.number 0) (sym accepted) in
    (accepted, simp none c.insert.ensures)
