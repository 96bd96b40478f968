-- `stock_c::stock_check` meets its contract: it answers what `stock::read::stock_check` does.
use mathlib.Core.Path.{◌∙◌}
use mir.Syntax.{w64}
use mir.Facts.{to_z-of_z}
use Rattle.stock_c.proofs.stock_check.Goals as goal

pub returns : goal.returns
returns c = to_z-of_z {w = w64} (record { sfits = c.stock_check.type_inv }) ∙ c.stock_check.ensures
