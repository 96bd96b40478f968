-- What a hold tells, after every program: number, serial and counts of the interval that closed last, not of the one that runs; and the alarms as they are.
use Rattle.std.specs.Prelude.{◌≡◌, Result}
use mathlib.Core.List.{List, foldl}
use Rattle.std.proofs.Math.Option.{Option, none, some}
use Rattle.steps.specs.Answers.{refused, answer_of}
use Rattle.steps.specs.Port.{Port}
use Rattle.refusal.specs.declared.Refusal.{Refusal}
use Rattle.alarm.specs.declared.Alarms.{Alarms}
use Rattle.interval.specs.declared.Closed.{Closed}
use Rattle.aberzhan.specs.declared.Module.{Module}
use Rattle.aberzhan.specs.declared.Holding.{Holding}
use Rattle.calls.specs.Calls.{number_of}
use Rattle.calls.specs.Told.{TellsOf}
use Rattle.calls.proofs.Contracts.{Holds}
use Rattle.demands.specs.Program.{Program, closes}
use Rattle.demands.specs.Alarms.{alarms_of}

-- the last of the intervals that have closed, if any has
abbrev pub lastly : List Closed → Option Closed
lastly h = foldl (λ (y : Option Closed) (z : Closed). some z) none h

-- its number, its serial and its counts of clipped samples, with these alarms; 14 if no interval has closed
abbrev pub Telling : Option Closed → Alarms → Result Holding Refusal → Type 0
Telling none a r = answer_of r ≡ refused 14
Telling (some z) a r = TellsOf z a r

-- r is anything that the contract of `Module::hold` allows at the program's end, at either port
abbrev pub HoldsTell : Type 0
HoldsTell =
    (p : Program) (q : Port) (r : Result Holding Refusal) (left : Module) → Holds p.log.end (number_of (some q)) r left →
    Telling (lastly (closes p)) (alarms_of p) r
