-- `range::in_range` meets its contract.
use mir.Facts.{to_z-of_z}
use Rattle.range.specs.Range.{in24}
use Rattle.range.proofs.in_range.Goals as goal

-- `range::in_range` meets its contract.
pub returns : goal.returns
unfolding in24
returns c = rw (to_z-of_z c.ranges.x)
