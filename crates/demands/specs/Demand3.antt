-- Demand 3 for this module and the struct that the code keeps, of every program.
use Rattle.std.specs.Prelude.{◌≡◌, true, cond, ◌||◌, List, ℤ}
use Rattle.steps.specs.Answers.{accepted}
use Rattle.steps.specs.Module.{fresh}
use Rattle.steps.specs.Gauge.{newly}
use Rattle.steps.specs.Promise.{Promise}
use Rattle.steps.specs.Calls.{Reply, refuses, done, Log, Ran, shorter_calls, CallsDemand3}
use Rattle.sample.specs.Sums.{Sample}
use Rattle.halfcycle.specs.Passing.{watch_sound}
use Rattle.meter.specs.Core.{core, samples_of}
use Rattle.meter.specs.Blocks.{sound_of}
use Rattle.meter.specs.Starting.{no_card}
use Rattle.aberzhan.specs.declared.Module.{Module}
use Rattle.calls.specs.Ports.{ports, aberzhan}
use Rattle.aberzhan.specs.Module.{watch_of}
use Rattle.calls.specs.Calls.{state_of, call_block}
use Rattle.calls.proofs.Contracts.{Allows, methods}
use Rattle.demands.specs.Program.{Program, first, calls, steps}

pub record ProgramDemand3 (p : Program) : Type 0 where
  -- the calls do what the steps do that they ask for, from the state of a fresh module; every log of the shorter sequence's calls has no refusal,
  -- the same values of every hold and read, and the same state at the end
  pub begins : state_of (first p) ≡ fresh aberzhan (newly core no_card (first p).meter.work (watch_of (first p)))
  pub log_of_calls : Ran aberzhan methods (calls p) (first p) p.log  -- the log is that of the calls which the turns count as: their contracts allow it too
  pub as_calls : CallsDemand3 aberzhan methods (first p) (calls p) p.log
  -- and leaves the very same struct
  pub same_struct : (short : Log aberzhan Module) → Ran aberzhan methods (shorter_calls aberzhan methods (first p) (calls p)) (first p) short →
      short.end ≡ p.log.end
  -- the shorter sequence is what the demand's words say; it closes the same intervals, counts the same energy, has the same card in
  -- force, the same alarms and the same last voltages; each closed interval is worked with one card, the last one committed before its first
  -- sample; no sample is lost; the watch sees each sample with the card of its interval, and meets each reset where it stood
  pub promise : Promise core ports no_card (first p).meter.work (watch_of (first p)) (steps p)
  -- no sum of the module that is left can overflow; so a block whose samples are well formed is refused exactly when no card is in force and
  -- none waits, and then with 18
  pub sound : sound_of p.log.end.meter ≡ true
  pub sound_watch : watch_sound (watch_of p.log.end) ≡ true
  pub eighteen : (v s1 s3 : List ℤ) (xs : List Sample) (o : Reply aberzhan × Module) → samples_of v s1 s3 ≡ accepted xs →
      Allows (call_block v s1 s3) p.log.end o →
      o.0 ≡ cond (p.log.end.meter.waits || p.log.end.meter.forced) done (refuses 18)

abbrev pub ModuleDemand3 : Type 0
ModuleDemand3 = (p : Program) → ProgramDemand3 p
