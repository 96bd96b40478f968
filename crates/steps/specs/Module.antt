-- The module's steps: each takes the state and hands back the state after it, with a report; or it is refused.
use Rattle.std.specs.Prelude.{List}
use Rattle.std.proofs.Math.Option.{Option, none, some}
use Rattle.steps.specs.Answers.{OrRefusal, refused, and_then}
use Rattle.steps.specs.Port.{Port, PerPort, on, put_on, on_both}
use Rattle.steps.specs.Parts.{Parts}

module _ (P : Parts) where
  open P use {Meter, Desk, Edit, Card, Held, HoldKind, Address, Value, Block, Mask, Closed}
  open P use {shut, edited, finished, discarded, wait, unheld, copy, told, look, feed, clear}

  pub record State : Type 0 where
    pub meter : Meter
    pub desks : PerPort Desk
    pub holds : PerPort Held

  -- no port is open, nothing is held
  abbrev pub fresh : Meter → State
  fresh m = record { meter = m; desks = on_both shut; holds = on_both unheld }

  -- what can be done at a port; `edit` is to open with a serial or to write a field
  pub data Op : Type 0 where
    edit : Edit → Op
    commit drop_card : Op
    hold : HoldKind → Op
    read : Address → Op

  -- a step by a port (`none`: by a port that is not 0 or 1), by the sample feed, or a reset, by no port
  pub data Step : Type 0 where
    at_port : Option Port → Op → Step
    block : Block → Step
    reset : Mask → Step

  -- what an accepted step makes known
  pub data Report : Type 0 where
    silent : Report
    commits : Card → Report
    tells : Port → Op → Value → Report
    closes : Block → List Closed → Report
    resets : Mask → Report

  abbrev pub with_meter : Meter → State → State
  with_meter m s = record { meter = m; desks = s.desks; holds = s.holds }

  abbrev pub with_desk : Port → Desk → State → State
  with_desk p d s = record { meter = s.meter; desks = put_on p d s.desks; holds = s.holds }

  abbrev pub with_held : Port → Held → State → State
  with_held p h s = record { meter = s.meter; desks = s.desks; holds = put_on p h s.holds }

  -- ---- what an accepted step reports, and the state that it leaves

  abbrev pub Done : Type 0
  Done = Report × State

  abbrev pub did_edit : Port → State → Desk → Done
  did_edit p s d = (silent, with_desk p d s)

  -- the card waits, and the desk is shut
  abbrev pub did_commit : Port → State → Card → Done
  did_commit p s c = (commits c, with_meter (wait c s.meter) (with_desk p shut s))

  abbrev pub did_drop : Port → State → Unit {0} → Done
  did_drop p s u = (silent, with_desk p shut s)

  -- the port's earlier hold is replaced; what is told of the meter is told as it is now
  abbrev pub did_hold : Port → HoldKind → State → Held → Done
  did_hold p k s h = (tells p (hold k) (told k s.meter h), with_held p h s)

  abbrev pub did_read : Port → Address → State → Value → Done
  did_read p a s v = (tells p (read a) v, s)

  abbrev pub did_block : Block → State → Meter × List Closed → Done
  did_block b s r = (closes b r.1, with_meter r.0 s)

  abbrev pub did_reset : Mask → State → Meter → Done
  did_reset k s m = (resets k, with_meter m s)

  -- ---- a step: its part is asked, and what that refuses, the step refuses

  abbrev pub Outcome : Type 0
  Outcome = OrRefusal Done

  -- a read answers from the latest hold on its own port, and from nothing else
  abbrev pub step_at : Port → Op → State → Outcome
  step_at p (edit e) s = and_then (edited (on s.desks p) e) (did_edit p s)
  step_at p commit s = and_then (finished (on s.desks p)) (did_commit p s)
  step_at p drop_card s = and_then (discarded (on s.desks p)) (did_drop p s)
  step_at p (hold k) s = and_then (copy k s.meter) (did_hold p k s)
  step_at p (read a) s = and_then (look (on s.holds p) a) (did_read p a s)

  abbrev pub step : Step → State → Outcome
  step (at_port none op) s = refused 8
  step (at_port (some p) op) s = step_at p op s
  step (block b) s = and_then (feed s.meter b) (did_block b s)
  step (reset k) s = and_then (clear s.meter k) (did_reset k s)
