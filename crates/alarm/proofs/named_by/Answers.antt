use mir.Facts.{to_z-of_z}
use Rattle.alarm.specs.Masks.{named_by}
use Rattle.alarm.proofs.named_by.Goals as goal

pub returns : goal.returns
unfolding named_by
returns c = rw (c.size-m.ensures, to_z-of_z c.ranges.mask)
