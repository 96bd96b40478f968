-- `all_three` meets its contract.
use mathlib.Core.Path.{ap₂}
use mathlib.Core.Bool.{◌&&◌}
use Rattle.meter.proofs.all_three.Goals as goal

pub returns : goal.returns
returns c = ap₂ ◌&&◌ (ap₂ ◌&&◌ c.all_in_range-a.ensures c.all_in_range-b.ensures) c.all_in_range-c.ensures
