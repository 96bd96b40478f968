-- `stock_c::stock_lookup` meets its contract: it answers what `stock::stock_lookup` does.
use mathlib.Core.Path.{◌∙◌}
use mir.Syntax.{w64}
use mir.Facts.{to_z-of_z}
use Rattle.stock_c.proofs.stock_lookup.Goals as goal

pub returns : goal.returns
returns c = to_z-of_z {w = w64} (record { sfits = c.stock_lookup.type_inv }) ∙ c.stock_lookup.ensures
