-- Demand 3, for any sequence of steps from a fresh module, by both ports, the sample feed and resets.
use Rattle.std.specs.Prelude.{◌≡◌, List}
use Rattle.steps.specs.Port.{Port, on}
use Rattle.steps.specs.Parts.{Parts}
use Rattle.steps.specs.Module.{Step, fresh}
use Rattle.steps.specs.Run.{Run, run}
use Rattle.steps.specs.Shorter.{steps_of, shorter}

module _ (P : Parts) (m : P.Meter) (xs : List (Step P)) where
  -- the sequence as it was
  abbrev pub long_run : Run P
  long_run = run P xs (fresh P m)

  -- the shorter one
  abbrev pub short_run : Run P
  short_run = run P (steps_of P (shorter P (fresh P m) xs)) (fresh P m)

  pub record Demand3 : Type 0 where
    pub none_refused : short_run.refusals ≡ 0
    pub same_intervals : short_run.closed ≡ long_run.closed  -- the same closed intervals in the same order, each with all its registers
    pub same_values : (p : Port) → on short_run.heard p ≡ on long_run.heard p  -- every read and every hold returns the same
    pub same_meter : short_run.end.meter ≡ long_run.end.meter  -- counts the same energy, has the same card in force and the same alarms
    pub same_state : short_run.end ≡ long_run.end  -- open desks and holds included
    pub same_history : short_run.history ≡ long_run.history  -- the same cards are committed, the same blocks and resets accepted, in the same order
