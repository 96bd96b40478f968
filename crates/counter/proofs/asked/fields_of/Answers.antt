-- `counter::asked::fields_of` meets its contract.
use mathlib.Core.Path.{◌≡◌, ap, ◌∙◌}
use mir.Syntax.{w64}
use mir.Facts.{to_z-of_z}
use borrow.Author.Rules.{rules}
use Rattle.std.specs.Prelude.{Err}
use Rattle.counter.specs.Asked.{answered_of}
use Rattle.counter.proofs.Said.{fields_back, card_refused, card_read}
use Rattle.counter.proofs.asked.fields_of.Goals as goal

pub returns-in_err-answered : goal.returns-in_err-answered
returns-in_err-answered c =
    let same : c.from_residual.result ≡ Err c.in_err-answered.field-0.0 = search rules in
    let said = to_z-of_z {w = w64} (record { sfits = c.stock_fields.type_inv }) ∙ c.stock_fields.ensures.0 in
    same ∙ card_refused c.args.card.now _ (c.in_err-answered.ensures ∙ ap answered_of said ∙ fields_back c.args.card.now 8)

pub returns : goal.returns
returns c =
    let said = to_z-of_z {w = w64} (record { sfits = c.stock_fields.type_inv }) ∙ c.stock_fields.ensures.0 in
    card_read c.args.card.now _ _ (c.in_ok-answered.ensures ∙ ap answered_of said ∙ fields_back c.args.card.now 8) c.stock_fields.ensures.1
