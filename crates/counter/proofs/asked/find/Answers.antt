-- `counter::asked::find` meets its contract.
use mathlib.Core.Path.{◌≡◌, ap, ◌∙◌}
use borrow.Author.Rules.{rules}
use Rattle.std.specs.Prelude.{Err}
use Rattle.counter.specs.Asked.{fields_of}
use Rattle.counter.proofs.Said.{none_found, one_found}
use Rattle.counter.proofs.asked.find.Goals as goal

pub returns-in_err-look_up : goal.returns-in_err-look_up
returns-in_err-look_up c =
    let same : c.from_residual.result ≡ Err c.in_err-look_up.field-0.0 = search rules in
    same ∙ none_found c.args.book.now c.args.label.now _ c.in_err-look_up.ensures

pub returns : goal.returns
returns c = c.fields_of.ensures ∙ ap fields_of c.card_of.ensures.0 ∙ one_found c.args.book.now c.args.label.now _ c.in_ok-look_up.ensures
