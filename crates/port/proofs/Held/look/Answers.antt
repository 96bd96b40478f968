-- `look` meets its contract.
use mathlib.Core.Path.{sym, ◌∙◌}
use mir.Facts.{to_z-of_z}
use mir.Syntax.{w64}
use borrow.Author.Rules.{sfits_of}
use borrow.Author.Tests.{lt-ltb, le-ltb}
use Rattle.std.proofs.lemmas.Bool.{not-true, not-false}
use Rattle.steps.proofs.Answers.{handed_on}
use Rattle.port.specs.Reading.{look}
use Rattle.port.proofs.Rows.{row_found, no_row}
use Rattle.port.proofs.Held.look.Goals as goal

pub returns-then-not-self : goal.returns-then-not-self
unfolding look
returns-then-not-self c = simp (not-true _ c.if-not-self.true)

pub returns-in_err-k : goal.returns-in_err-k
unfolding look
returns-in_err-k c =
    let h = no_row _ _ _ _ _ c.register_of.ensures (sym c.ok_or.ensures.value ∙ c.in_err-k.was) in
    handed_on _ _ c.from_residual.ensures.1 ∙ simp (h.1, not-false _ c.if-not-self.false, le-ltb _ _ h.0)

pub returns-then-slot_off : goal.returns-then-slot_off
unfolding look
returns-then-slot_off c =
    let h = row_found _ _ _ _ _ c.register_of.ensures (sym c.ok_or.ensures.value ∙ c.in_ok-k.was) in
    simp (not-false _ c.if-not-self.false, h.0, lt-ltb _ _ h.1, sym c.slot_off.ensures ∙ c.if-slot_off.true)

pub returns : goal.returns
unfolding look
returns c =
    let h = row_found _ _ _ _ _ c.register_of.ensures (sym c.ok_or.ensures.value ∙ c.in_ok-k.was) in
    simp (to_z-of_z {w = w64} (sfits_of c.register.type_inv) ∙ c.register.ensures, not-false _ c.if-not-self.false, h.0, lt-ltb _ _ h.1, sym c.slot_off.ensures ∙ c.if-slot_off.false)
