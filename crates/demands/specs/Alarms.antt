-- The alarms after every program: what document 02 (A3) says of the list of all corrected voltages, the settings and the resets.
use Rattle.std.specs.Prelude.{◌≡◌, List, [], ◌∷◌, map, ◌++◌, ℤ}
use Rattle.std.proofs.Math.Option.{Option, none}
use Rattle.steps.specs.OneCard.{Tagged, Interval, place_after, outset}
use Rattle.steps.specs.Shorter.{struck}
use Rattle.steps.specs.Watching.{Mark, seen, named, marked, with_cards, with_card_if, resets_of}
use Rattle.sample.specs.Sample.{voltage}
use Rattle.alarm.specs.declared.Alarms.{Alarms}
use Rattle.halfcycle.specs.History.{Came, voltage as comes, reset, voltages_of, last_squares, alarms_meant}
use Rattle.meter.specs.Core.{core}
use Rattle.calls.specs.Ports.{ports, aberzhan}
use Rattle.calls.specs.Calls.{state_of}
use Rattle.demands.specs.Program.{Program, first, limits, steps, ran}
use Rattle.demands.specs.Intervals.{samples_with_cards, intervals_of}

-- ---- all corrected voltages

-- the interval that is open, if one is
abbrev pub open_of : Program → Option (Interval core)
open_of p = (place_after core (samples_with_cards p) (outset core (first p).meter.work)).running

-- of each accepted sample, in their order: corrected with the card of its interval
abbrev pub corrected_of : Program → List ℤ
corrected_of p = map (λ (t : Tagged core). voltage t.0 t.1.0) (with_cards core (intervals_of p) ++ with_card_if core (open_of p))

-- ---- with the resets between them

abbrev pub came_as : Mark core → Came
came_as (seen c x) = comes (voltage c x.0)
came_as (named mask) = reset mask

-- what the resets among these name
abbrev pub masks_of : List Came → List ℤ
masks_of [] = []
masks_of (comes v ∷ r) = masks_of r
masks_of (reset mask ∷ r) = mask ∷ masks_of r

abbrev pub came_of : Program → List Came
came_of p = map came_as (marked core ports none (ran p).history (outset core (first p).meter.work))

-- ---- so it is

abbrev pub alarms_of : Program → Alarms
alarms_of p = alarms_meant (limits p) (came_of p)

pub record ProgramAlarms (p : Program) : Type 0 where
  pub voltages : voltages_of (came_of p) ≡ corrected_of p
  pub resets : masks_of (came_of p) ≡ resets_of core ports (struck aberzhan (steps p) (state_of (first p)))
  pub sum : p.log.end.watch.sum ≡ last_squares (limits p).w (corrected_of p)
  pub alarms : p.log.end.watch.alarms ≡ alarms_of p

abbrev pub EveryAlarm : Type 0
EveryAlarm = (p : Program) → ProgramAlarms p
