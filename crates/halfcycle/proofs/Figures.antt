-- The figures, computed.
use mathlib.Core.Path.{refl}
use Rattle.alarm.specs.Masks.{only_alarms, named_by}
use Rattle.alarm.specs.Alarms.{next_place, slid_sum, sags, surges, shown, alarms_after, watched, cleared_of, clearing}
use Rattle.halfcycle.specs.Passing.{squares}
use Rattle.halfcycle.specs.Figures.{Figured}

pub figured : Figured
unfolding only_alarms named_by next_place slid_sum sags surges shown alarms_after watched cleared_of clearing squares
figured = record { by_the_watch = refl; by_the_meaning = refl }
