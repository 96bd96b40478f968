-- `counter::asked::withdraw` meets its contract.
use mathlib.Core.Path.{ap, ◌∙◌}
use mir.Syntax.{w64}
use mir.Facts.{to_z-of_z}
use Rattle.counter.specs.Asked.{answered_of}
use Rattle.counter.proofs.Said.{withdraw_back}
use Rattle.counter.proofs.asked.withdraw.Goals as goal

pub returns : goal.returns
returns c =
    let a = c.args in
    let e = c.stock_withdraw.ensures in
    (c.answered.ensures ∙ ap answered_of (to_z-of_z {w = w64} (record { sfits = c.stock_withdraw.type_inv }) ∙ e.0) ∙ withdraw_back a.buffer.now a.used a.label.now, e.1)
