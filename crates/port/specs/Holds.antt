-- What a hold leaves on its port.
use Rattle.std.specs.Prelude.{ℕ, Bool, true, false, cond, List, ℤ, replicate}
use Rattle.steps.specs.Answers.{OrRefusal, refused, accepted}
use Rattle.serial.specs.declared.Serial.{Serial}
use Rattle.address.specs.declared.WordAddr.{WordAddr}
use Rattle.sample.specs.declared.Clips.{Clips}
use Rattle.alarm.specs.declared.Alarms.{Alarms}
use Rattle.interval.specs.declared.Closed.{Closed}
use Rattle.address.specs.Slots.{off}
use Rattle.interval.specs.Close.{none_closed}
use Rattle.port.specs.declared.Held.{Held}

-- a port where nothing is held
abbrev pub nothing_held : Held
nothing_held = record { any = false; closed = none_closed; track = replicate 6 off }

-- hold: 14. Copies all registers as they stood at the last close, with the words that the slots track; `any`: whether an interval has closed.
unfoldable pub copy_of : Closed → List WordAddr → Held
copy_of last track = record { any = true; closed = last; track = track }

unfoldable pub copied : Bool → Closed → List WordAddr → OrRefusal Held
copied any last track = cond any (accepted (copy_of last track)) (refused 14)

-- what a hold returns, the interval's number, its serial and how many of its samples were clipped, and the alarms as they are when it is taken;
-- and what a read returns
pub data Value : Type 0 where
  interval : ℕ → Serial → Clips → Alarms → Value
  register : ℤ → Value

abbrev pub told : Alarms → Held → Value
told alarms h = interval h.closed.number h.closed.serial h.closed.clips alarms
