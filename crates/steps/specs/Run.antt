-- A sequence of steps, taken one after the other: what comes of it.
use Rattle.std.specs.Prelude.{ℕ, suc, List, [], ◌∷◌, ◌++◌}
use Rattle.steps.specs.Answers.{refused, accepted}
use Rattle.steps.specs.Port.{PerPort, on, put_on, on_both}
use Rattle.steps.specs.Parts.{Parts}
use Rattle.steps.specs.Module.{Op, Step, State, Report, silent, commits, tells, closes, resets, Outcome, step}

module _ (P : Parts) where
  -- what reaches the meter: a committed card, an accepted block, an accepted reset
  pub data Event : Type 0 where
    committed : P.Card → Event
    fed : P.Block → Event
    cleared : P.Mask → Event

  pub record Run : Type 0 where
    pub refusals : ℕ  -- how many steps were refused
    pub history : List Event
    pub closed : List P.Closed  -- the closed intervals, first to last
    pub heard : PerPort (List (Op P × P.Value))  -- each port's accepted holds and reads with what they returned, first to last
    pub end : State P

  abbrev pub nothing_done : State P → Run
  nothing_done s = record { refusals = 0; history = []; closed = []; heard = on_both []; end = s }

  -- the run r, with a refused step before it
  abbrev pub with_refusal : Run → Run
  with_refusal r = record { refusals = suc r.refusals; history = r.history; closed = r.closed; heard = r.heard; end = r.end }

  abbrev pub with_event : Event → List P.Closed → Run → Run
  with_event e c r = record { refusals = r.refusals; history = e ∷ r.history; closed = c ++ r.closed; heard = r.heard; end = r.end }

  -- the run r, with an accepted step before it
  abbrev pub with_report : Report P → Run → Run
  with_report silent r = r
  with_report (commits c) r = with_event (committed c) [] r
  with_report (closes b c) r = with_event (fed b) c r
  with_report (resets k) r = with_event (cleared k) [] r
  with_report (tells p op v) r =
      record { refusals = r.refusals; history = r.history; closed = r.closed; heard = put_on p ((op, v) ∷ on r.heard p) r.heard; end = r.end }

  -- a refused step leaves the state as it came
  abbrev pub follow : Outcome P → State P → (State P → Run) → Run
  follow (refused n) s rest = with_refusal (rest s)
  follow (accepted r) s rest = with_report r.0 (rest r.1)

  abbrev pub run : List (Step P) → State P → Run
  run [] s = nothing_done s
  run (x ∷ xs) s = follow (step P x s) s (run xs)
