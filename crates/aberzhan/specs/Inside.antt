-- What the module's own functions do. No public contract rests on it.
use Rattle.std.specs.Prelude.{List, cond, ℤ, nat_abs}
use Rattle.steps.specs.Answers.{OrRefusal, refused, accepted}
use Rattle.steps.specs.Port.{Port, port0, port1}
use Rattle.address.specs.declared.WordAddr.{WordAddr}
use Rattle.alarm.specs.declared.Asked.{Asked}
use Rattle.alarm.specs.Starting.{limits_in, fresh_watch}
use Rattle.meter.specs.Starting.{fresh_of}
use Rattle.port.specs.declared.Held.{Held}
use Rattle.port.specs.Holds.{copied}
use Rattle.aberzhan.specs.declared.Port.{Port as Named}
use Rattle.aberzhan.specs.declared.Port.TheVariants.{Zero, One}
use Rattle.aberzhan.specs.declared.Module.{Module}
use Rattle.aberzhan.specs.Module.{settings_ok, fresh_module}

-- the code's word for a port, and the port that it means
abbrev pub named : Port → Named
named port0 = Zero
named port1 = One

abbrev pub side_of : Named → Port
side_of Zero = port0
side_of One = port1

-- what a hold copies now
abbrev pub copied_now : Module → OrRefusal Held
copied_now m = let w = m.meter.work in copied w.any w.last w.settings.track

-- a module with these settings: 7
unfoldable pub begun_of : ℤ → ℤ → List WordAddr → Asked → ℤ → OrRefusal Module
begun_of n b track asked config =
    cond (settings_ok n b track asked config)
    (accepted (fresh_module (fresh_of (nat_abs n) (nat_abs b) track (nat_abs config)) (fresh_watch (limits_in asked))))
    (refused 7)
