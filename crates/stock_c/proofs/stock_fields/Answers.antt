-- `stock_c::stock_fields` meets its contract: it answers what `stock::read::stock_fields` does.
use mathlib.Core.Path.{◌∙◌}
use mir.Syntax.{w64}
use mir.Facts.{to_z-of_z}
use Rattle.stock_c.proofs.stock_fields.Goals as goal

pub returns : goal.returns
returns c = (to_z-of_z {w = w64} (record { sfits = c.stock_fields.type_inv }) ∙ c.stock_fields.ensures.0, c.stock_fields.ensures.1)
