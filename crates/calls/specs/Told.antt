-- What an accepted hold hands back, field by field: of the interval that it holds, and the alarms.
use Rattle.std.specs.Prelude.{◌≡◌, Result}
use Rattle.steps.specs.Answers.{accepted, answer_of}
use Rattle.refusal.specs.declared.Refusal.{Refusal}
use Rattle.alarm.specs.declared.Alarms.{Alarms}
use Rattle.interval.specs.declared.Closed.{Closed}
use Rattle.aberzhan.specs.declared.Holding.{Holding}

-- r tells the number, the serial and the counts of clipped samples of the interval z, and the alarms a
pub record TellsOf (z : Closed) (a : Alarms) (r : Result Holding Refusal) : Type 0 where
  pub told : Holding
  pub answer : answer_of r ≡ accepted told
  pub number : told.number ≡ z.number
  pub serial : told.serial ≡ z.serial
  pub voltages : told.clips.v ≡ z.clips.v
  pub of_s1 : told.clips.s1 ≡ z.clips.s1
  pub of_s3 : told.clips.s3 ≡ z.clips.s3
  pub sag : told.alarms.sag ≡ a.sag
  pub surge : told.alarms.surge ≡ a.surge
