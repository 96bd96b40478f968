-- `packet::while_selected` meets its contract.
use mathlib.Core.Path.{sym, ◌∙◌}
use borrow.Author.Tests.{lt-ltb, le-ltb}
use Rattle.packet.specs.Commands.{while_selected}
use Rattle.packet.proofs.while_selected.Goals as goal

pub returns-then-not_used : goal.returns-then-not_used
unfolding while_selected
returns-then-not_used c = simp (sym c.not_used.ensures ∙ c.if-not_used.true)

pub returns-then-behind-parameters : goal.returns-then-behind-parameters
unfolding while_selected
returns-then-behind-parameters c = simp (sym c.not_used.ensures ∙ c.if-not_used.false, sym c.parameters.ensures, lt-ltb _ _ c.if-behind-parameters.true)

pub returns-then-c : goal.returns-then-c
unfolding while_selected
returns-then-c c =
    let not-used = c.not_used in
    let if1 = c.if-not_used in
    let parameters = c.parameters in
    simp (sym not-used.ensures ∙ if1.false, sym parameters.ensures, le-ltb _ _ c.if-behind-parameters.false, c.if-c.true, c.point-pointer.ensures)

pub returns-then-c-2 : goal.returns-then-c-2
unfolding while_selected
returns-then-c-2 c =
    let not-used = c.not_used in
    let if1 = c.if-not_used in
    let parameters = c.parameters in
    simp (sym not-used.ensures ∙ if1.false, sym parameters.ensures, le-ltb _ _ c.if-behind-parameters.false, c.if-c.false, c.if-c-2.true)

pub returns : goal.returns
unfolding while_selected
returns c =
    let not-used = c.not_used in
    let if1 = c.if-not_used in
    let parameters = c.parameters in
    let if2 = c.if-behind-parameters in
    let if3 = c.if-c in
    simp (sym not-used.ensures ∙ if1.false, sym parameters.ensures, le-ltb _ _ if2.false, if3.false, c.if-c-2.false, c.read.ensures, c.bytes_read.ensures)
