-- A program: a start with any settings, and any turns, calls of steps and polls, one after the other, each with the module that the one before left.
-- The start and every turn come to any outcome that the contracts which the toolchain generates for the methods allow.
use Rattle.std.specs.Prelude.{ℕ, Result, List, [], ◌∷◌, ℤ}
use Rattle.steps.specs.Module.{Step}
use Rattle.steps.specs.Run.{Run}
use Rattle.steps.specs.Calls.{Reply, Log, none_called, noted, asked, run_of}
use Rattle.refusal.specs.declared.Refusal.{Refusal}
use Rattle.address.specs.declared.WordAddr.{WordAddr}
use Rattle.alarm.specs.declared.Asked.{Asked}
use Rattle.alarm.specs.declared.Limits.{Limits}
use Rattle.interval.specs.declared.Settings.{Settings}
use Rattle.interval.specs.declared.Closed.{Closed}
use Rattle.aberzhan.specs.declared.Module.{Module}
use Rattle.aberzhan.specs.declared.Started.{Started}
use Rattle.calls.specs.Ports.{aberzhan}
use Rattle.calls.specs.Calls.{Call, step_of}
use Rattle.calls.specs.Turns.{Turn, call, poll, counts_as, calls_of, noted_all}
use Rattle.calls.proofs.Contracts.{Starts, Polls, Allows, methods}

-- Turns from a module, and the log of what came of them: of a call the reply that its contract allows. A poll that sends registers is noted as its hold
-- and its reads, and any other not at all; that its reply has what these return, and that it leaves what they leave, is `PollsTell`.
pub data Took : List Turn → Module → Log aberzhan Module → Type 0 where
  ended : {m : Module} → Took [] m (none_called aberzhan Module m)
  called : {k : Call} {ts : List Turn} {m : Module} {l : Log aberzhan Module} (o : Reply aberzhan × Module) → Allows k m o → Took ts o.1 l →
      Took (call k ∷ ts) m (noted aberzhan Module (step_of k) o.0 l)
  polled : {packet buffer : List ℕ} {ts : List Turn} {m : Module} {l : Log aberzhan Module} (r : Result ℕ Refusal) (z : Module) (left : List ℕ) →
      Polls m packet buffer r z left → Took ts z l → Took (poll packet buffer ∷ ts) m (noted_all (counts_as m (poll packet buffer)) m l)

pub record Program : Type 0 where
  pub n : ℤ  -- the settings asked for: samples per interval,
  pub b : ℤ  -- the bucket,
  pub track : List WordAddr  -- the words to track,
  pub asked : Asked  -- what is asked of the watch,
  pub config : ℤ  -- and the board's configuration
  pub started : Started  -- what the start returned
  pub turns : List Turn
  pub log : Log aberzhan Module  -- what came of the turns
  pub start_allowed : Starts n b track asked config started
  pub turns_allowed : Took turns started.module log

-- the module that the start returned, and its settings
abbrev pub first : Program → Module
first p = p.started.module

abbrev pub settings : Program → Settings
settings p = (first p).meter.work.settings

abbrev pub limits : Program → Limits
limits p = (first p).watch.limits

-- the calls that the turns count as; the steps that these ask for, and what comes of them, with the list of all closed intervals
abbrev pub calls : Program → List Call
calls p = calls_of p.turns (first p)

abbrev pub steps : Program → List (Step aberzhan)
steps p = asked aberzhan methods (first p) (calls p)

abbrev pub ran : Program → Run aberzhan
ran p = run_of aberzhan methods (first p) (calls p)

abbrev pub closes : Program → List Closed
closes p = (ran p).closed
