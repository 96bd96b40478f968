-- `stock_c::stock_serial` meets its contract: it answers what `stock::read::stock_serial` does.
use mathlib.Core.Path.{◌∙◌}
use mir.Syntax.{w64}
use mir.Facts.{to_z-of_z}
use Rattle.stock_c.proofs.stock_serial.Goals as goal

pub returns : goal.returns
returns c = (to_z-of_z {w = w64} (record { sfits = c.stock_serial.type_inv }) ∙ c.stock_serial.ensures.0, c.stock_serial.ensures.1)
