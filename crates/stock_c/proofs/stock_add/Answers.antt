-- `stock_c::stock_add` meets its contract: it answers what `stock::stock_add` does.
use mathlib.Core.Path.{◌∙◌}
use mir.Syntax.{w64}
use mir.Facts.{to_z-of_z}
use Rattle.stock_c.proofs.stock_add.Goals as goal

pub returns : goal.returns
returns c =
    let f = c.ranges in
    let w = rw (
      to_z-of_z f.voffs,
      to_z-of_z f.ioffs,
      to_z-of_z f.vgain,
      to_z-of_z f.igain,
      to_z-of_z f.phase,
      to_z-of_z f.irmsoffs,
      to_z-of_z f.squelch,
      to_z-of_z f.poffs,
    ) at c.stock_add.ensures in
    (to_z-of_z {w = w64} (record { sfits = c.stock_add.type_inv }) ∙ w.0, w.1)
