-- `stock_c::stock_withdraw` meets its contract: it answers what `stock::stock_withdraw` does.
use mathlib.Core.Path.{◌∙◌}
use mir.Syntax.{w64}
use mir.Facts.{to_z-of_z}
use Rattle.stock_c.proofs.stock_withdraw.Goals as goal

pub returns : goal.returns
returns c = (to_z-of_z {w = w64} (record { sfits = c.stock_withdraw.type_inv }) ∙ c.stock_withdraw.ensures.0, c.stock_withdraw.ensures.1)
