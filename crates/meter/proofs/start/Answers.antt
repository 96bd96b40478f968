-- `start` meets its contract.
use mathlib.Core.Path.{◌≡◌}
use mathlib.Core.Bool.{true, false, ◌&&◌}
use mir.Facts.{to_z-of_z}
use Rattle.address.specs.Slots.{every_slot}
use Rattle.meter.specs.Starting.{numbers_ok, config_ok}
use Rattle.meter.proofs.Starts.{start_by}
use Rattle.meter.proofs.start.Goals as goal
use Rattle.meter.proofs.start.Goals.{Else-n-b, Then-n-b}

-- what the test says of the settings
good : (c : Then-n-b) → let a = c.args in (numbers_ok a.n a.b && every_slot a.track && config_ok a.config) ≡ true
unfolding numbers_ok config_ok
good c =
    rw (to_z-of_z c.ranges.n, to_z-of_z c.ranges.b, to_z-of_z c.ranges.config, c.all_slots-slots.ensures) at c.if-n-b.true

bad : (c : Else-n-b) → let a = c.args in (numbers_ok a.n a.b && every_slot a.track && config_ok a.config) ≡ false
unfolding numbers_ok config_ok
bad c =
    rw (to_z-of_z c.ranges.n, to_z-of_z c.ranges.b, to_z-of_z c.ranges.config, c.all_slots-slots.ensures) at c.if-n-b.false

pub returns-then-n-b : goal.returns-then-n-b
returns-then-n-b c =
    rw (c.fresh.ensures, to_z-of_z c.ranges.n, to_z-of_z c.ranges.b, to_z-of_z c.ranges.config) (start_by true c.args.n c.args.b c.args.track c.args.config (good (goal.at.returns-then-n-b c).Then-n-b))

pub returns : goal.returns
returns c = let a = c.args in start_by false a.n a.b a.track a.config (bad (goal.at.returns c).Else-n-b)
