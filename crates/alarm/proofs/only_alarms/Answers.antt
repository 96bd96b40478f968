use mir.Facts.{to_z-of_z}
use Rattle.alarm.specs.Masks.{only_alarms}
use Rattle.alarm.proofs.only_alarms.Goals as goal

pub returns : goal.returns
unfolding only_alarms
returns c = rw (c.size-m.ensures, to_z-of_z c.ranges.mask)
