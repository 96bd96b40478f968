-- What the definitions say of a call agrees with its step: a block too, for a sound module; so what the contracts allow is what the steps do.
use Prim.Native.Nat.{ℕ}
use mathlib.Core.Path.{◌≡◌, refl, ap, ◌∙◌}
use mathlib.Core.Bool.{Bool, true, false, cond, ◌||◌}
use mathlib.Core.List.{List, []}
use mathlib.Core.Option.{Option, none, some}
use lib.IntN.{ℤ}
use Rattle.steps.specs.Answers.{OrRefusal, refused, accepted, and_then}
use Rattle.steps.specs.Port.{Port, port0, port1, on}
use Rattle.steps.specs.Module.{edit, commit, drop_card, hold, read, Step, at_port, block, reset, did_edit, did_commit, did_drop, did_hold, did_read, did_block, did_reset, Outcome as StepOutcome, step}
use Rattle.steps.specs.Gauge.{Metering, latest, passes}
use Rattle.steps.specs.Calls.{Reply, reply, after}
use Rattle.steps.proofs.Calls.{Does}
use Rattle.card.specs.declared.Card.{Card}
use Rattle.address.specs.declared.ByteAddr.{ByteAddr}
use Rattle.interval.specs.declared.Closed.{Closed}
use Rattle.sample.specs.Sample.{every24}
use Rattle.sample.specs.Sums.{Sample, samples_in, same_length}
use Rattle.alarm.specs.declared.Watch.{Watch}
use Rattle.alarm.specs.Alarms.{both, clearing}
use Rattle.halfcycle.proofs.Tests.{good_yes}
use Rattle.meter.specs.Core.{core, samples_of, reset_watch, meter_of, metering_of}
use Rattle.meter.specs.Blocks.{wait_of, next_card, block_done, fed, block_of as meterBlock, volts_in, volts_of}
use Rattle.meter.proofs.Agreement.{block_passes}
use Rattle.desk.specs.declared.Desk.{Desk}
use Rattle.port.specs.declared.Held.{Held}
use Rattle.desk.specs.Desks.{open_with, write_field, shut_desk, opening, writing, finished, discarded, dropping}
use Rattle.port.specs.Holds.{register, copied}
use Rattle.port.specs.Reading.{look}
use Rattle.aberzhan.specs.declared.Module.{Module}
use Rattle.calls.specs.Ports.{aberzhan}
use Rattle.aberzhan.specs.Module.{Outcome, desk_of, held_of, watch_of, port_at, at_port as at_port_of, refusal, at_desk, committing, holding, open_of, write_of, commit_of, drop_of, hold_of, read_of, feeding, block_of, resetting, reset_of}
use Rattle.calls.specs.Calls.{state_of, module_of, Call, call_open, call_write, call_commit, call_drop, call_hold, call_read, call_block, call_reset, step_of, number_of, call_of, from_step, from_hold, from_read, returned}
use Rattle.calls.proofs.Soundness.{SoundModule, sounds}
use Rattle.calls.proofs.Contracts.{methods, allowed_is}

-- what a call returns, of a step's outcome
abbrev from : Module → StepOutcome aberzhan → Reply aberzhan × Module
from m o = (reply aberzhan o, module_of (after aberzhan o (state_of m)))

-- ---- a block
abbrev blocked : Module → OrRefusal (Metering core × List Closed) → Outcome (Unit {0})
blocked m q = feeding m (volts_in (watch_of m) q) (and_then q fed)

block_by : (m : Module) (v s1 s3 : List ℤ) (q : OrRefusal (Metering core × List Closed)) →
    from_step (blocked m q) ≡ from m (and_then q (did_block aberzhan (v, s1, s3) (state_of m)))
block_by m v s1 s3 (refused n) = refl
block_by m v s1 s3 (accepted r) = refl

block_is : (m : Module) (v s1 s3 : List ℤ) → SoundModule m → block_of m v s1 s3 ≡ blocked m (passes core (samples_of v s1 s3) (latest core (meter_of m.meter)) (metering_of m.meter (watch_of m)))
unfolding block_of meterBlock volts_of
block_is m v s1 s3 h = ap (blocked m) (block_passes m.meter (watch_of m) v s1 s3 h.0 (good_yes m.watch m.volts h.1))

block_steps : (m : Module) (v s1 s3 : List ℤ) → SoundModule m → from_step (block_of m v s1 s3) ≡ from m (step aberzhan (block (v, s1, s3)) (state_of m))
block_steps m v s1 s3 h =
    ap from_step (block_is m v s1 s3 h) ∙ block_by m v s1 s3 (passes core (samples_of v s1 s3) (latest core (meter_of m.meter)) (metering_of m.meter (watch_of m)))

-- 18, for a sound module
eighteen_by : (m : Module) (xs : List Sample) (w f : Bool) (x y : Card) →
    (blocked m (passes core (accepted xs) (cond w (some x) (cond f (some y) none)) (metering_of m.meter (watch_of m)))).answer ≡ cond (w || f) (accepted tt) (refused 18)
eighteen_by m xs true f x y = refl
eighteen_by m xs false true x y = refl
eighteen_by m xs false false x y = refl

-- of a block whose samples are well formed: 18 is given exactly when no card is in force and none waits
pub eighteen : (m : Module) (v s1 s3 : List ℤ) (xs : List Sample) → SoundModule m → samples_of v s1 s3 ≡ accepted xs →
    (block_of m v s1 s3).answer ≡ cond (m.meter.waits || m.meter.forced) (accepted tt) (refused 18)
eighteen m v s1 s3 xs h e =
    ap (λ (s : Outcome (Unit {0})). s.answer) (block_is m v s1 s3 h)
    ∙ ap (λ (q : OrRefusal (List Sample)). (blocked m (passes core q (latest core (meter_of m.meter)) (metering_of m.meter (watch_of m)))).answer) e
    ∙ eighteen_by m xs m.meter.waits m.meter.forced m.meter.waiting m.meter.force

-- an empty block, if accepted, changes nothing
empty_by : (m : Module) (o : Option Card) → (blocked m (passes core (accepted []) o (metering_of m.meter (watch_of m)))).after ≡ m
empty_by m none = refl
empty_by m (some c) = refl

pub empty_block : (m : Module) → (block_of m [] [] []).after ≡ m
unfolding block_of meterBlock volts_of block_done samples_of same_length every24 samples_in
empty_block m = empty_by m (next_card m.meter (watch_of m))

-- ---- a reset
reset_by : (m : Module) (mask : ℤ) (q : OrRefusal Watch) →
    from_step (resetting m q) ≡
    from m (and_then (and_then (and_then q (λ a. both a m.volts)) (λ w. record { intervals = meter_of m.meter; watch = w })) (did_reset aberzhan mask (state_of m)))
reset_by m mask (refused n) = refl
reset_by m mask (accepted a) = refl

reset_steps : (m : Module) (mask : ℤ) → from_step (reset_of m mask) ≡ from m (step aberzhan (reset mask) (state_of m))
unfolding reset_of reset_watch
reset_steps m mask = reset_by m mask (clearing m.watch mask)

-- ---- a step at a port
desk_is : (m : Module) (p : Port) → desk_of m p ≡ on (state_of m).desks p
desk_is m port0 = refl
desk_is m port1 = refl

held_is : (m : Module) (p : Port) → held_of m p ≡ on (state_of m).holds p
held_is m port0 = refl
held_is m port1 = refl

edit_by : (m : Module) (p : Port) (q : OrRefusal Desk) → from_step (at_desk m p q) ≡ from m (and_then q (did_edit aberzhan p (state_of m)))
edit_by m p (refused n) = refl
edit_by m port0 (accepted d) = refl
edit_by m port1 (accepted d) = refl

drop_by : (m : Module) (p : Port) (q : OrRefusal (Unit {0})) → from_step (at_desk m p (and_then q (λ u. shut_desk))) ≡ from m (and_then q (did_drop aberzhan p (state_of m)))
drop_by m p (refused n) = refl
drop_by m port0 (accepted u) = refl
drop_by m port1 (accepted u) = refl

commit_by : (m : Module) (p : Port) (q : OrRefusal Card) → from_step (committing m p q) ≡ from m (and_then q (did_commit aberzhan p (state_of m)))
unfolding wait_of
commit_by m p (refused n) = refl
commit_by m port0 (accepted c) = refl
commit_by m port1 (accepted c) = refl

hold_by : (m : Module) (p : Port) (q : OrRefusal Held) → from_hold (holding m p q) ≡ from m (and_then q (did_hold aberzhan p tt (state_of m)))
hold_by m p (refused n) = refl
hold_by m port0 (accepted h) = refl
hold_by m port1 (accepted h) = refl

read_by : (m : Module) (p : Port) (a : ByteAddr) (q : OrRefusal ℤ) →
    from_read q m ≡ from m (and_then (and_then q register) (did_read aberzhan p a (state_of m)))
read_by m p a (refused n) = refl
read_by m p a (accepted v) = refl

-- ---- a call does the step that it asks for
module _ (m : Module) where
  open_at : (o : Option Port) (text : List ℕ) → from_step (at_port_of o (refusal 8 m) (λ p. at_desk m p (opening (desk_of m p) text))) ≡ from m (step aberzhan (at_port o (edit (open_with text))) (state_of m))
  open_at none text = refl
  open_at (some p) text = edit_by m p (opening (desk_of m p) text) ∙ ap (λ (d : Desk). from m (and_then (opening d text) (did_edit aberzhan p (state_of m)))) (desk_is m p)

  write_at : (o : Option Port) (f v : ℤ) → from_step (at_port_of o (refusal 8 m) (λ p. at_desk m p (writing (desk_of m p) f v))) ≡ from m (step aberzhan (at_port o (edit (write_field f v))) (state_of m))
  write_at none f v = refl
  write_at (some p) f v = edit_by m p (writing (desk_of m p) f v) ∙ ap (λ (d : Desk). from m (and_then (writing d f v) (did_edit aberzhan p (state_of m)))) (desk_is m p)

  commit_at : (o : Option Port) → from_step (at_port_of o (refusal 8 m) (λ p. committing m p (finished (desk_of m p)))) ≡ from m (step aberzhan (at_port o commit) (state_of m))
  commit_at none = refl
  commit_at (some p) = commit_by m p (finished (desk_of m p)) ∙ ap (λ (d : Desk). from m (and_then (finished d) (did_commit aberzhan p (state_of m)))) (desk_is m p)

  drop_at : (o : Option Port) → from_step (at_port_of o (refusal 8 m) (λ p. at_desk m p (dropping (desk_of m p)))) ≡ from m (step aberzhan (at_port o drop_card) (state_of m))
  drop_at none = refl
  drop_at (some p) = drop_by m p (discarded (desk_of m p)) ∙ ap (λ (d : Desk). from m (and_then (discarded d) (did_drop aberzhan p (state_of m)))) (desk_is m p)

  hold_at : (o : Option Port) → let w = m.meter.work in
      from_hold (at_port_of o (refusal 8 m) (λ p. holding m p (copied w.any w.last w.settings.track))) ≡ from m (step aberzhan (at_port o (hold tt)) (state_of m))
  hold_at none = refl
  hold_at (some p) = (let w = m.meter.work in hold_by m p (copied w.any w.last w.settings.track))

  read_at : (o : Option Port) (a : ByteAddr) →
      from_read (at_port_of o (refused 8) (λ p. look (held_of m p) a)) m ≡ from m (step aberzhan (at_port o (read a)) (state_of m))
  read_at none a = refl
  read_at (some p) a = read_by m p a (look (held_of m p) a) ∙ ap (λ (h : Held). from m (and_then (and_then (look h a) register) (did_read aberzhan p a (state_of m)))) (held_is m p)

pub call_does : (k : Call) (m : Module) → SoundModule m → returned k m ≡ from m (step aberzhan (step_of k) (state_of m))
unfolding open_of write_of commit_of drop_of hold_of read_of
call_does (call_open p text) m h = open_at m (port_at p) text
call_does (call_write p f v) m h = write_at m (port_at p) f v
call_does (call_commit p) m h = commit_at m (port_at p)
call_does (call_drop p) m h = drop_at m (port_at p)
call_does (call_hold p) m h = hold_at m (port_at p)
call_does (call_read p a) m h = read_at m (port_at p) a
call_does (call_block v s1 s3) m h = block_steps m v s1 s3 h
call_does (call_reset mask) m h = reset_steps m mask

-- ---- every step has its call
number_port : (o : Option Port) → port_at (number_of o) ≡ o
unfolding port_at
number_port none = refl
number_port (some port0) = refl
number_port (some port1) = refl

step_call : (x : Step aberzhan) → step_of (call_of x) ≡ x
step_call (at_port o (edit (open_with text))) = ap (λ (o : Option Port). at_port o (edit (open_with text))) (number_port o)
step_call (at_port o (edit (write_field f v))) = ap (λ (o : Option Port). at_port o (edit (write_field f v))) (number_port o)
step_call (at_port o commit) = ap (λ (o : Option Port). at_port o commit) (number_port o)
step_call (at_port o drop_card) = ap (λ (o : Option Port). at_port o drop_card) (number_port o)
step_call (at_port o (hold k)) = ap (λ (o : Option Port). at_port o (hold k)) (number_port o)
step_call (at_port o (read a)) = ap (λ (o : Option Port). at_port o (read a)) (number_port o)
step_call (block b) = refl
step_call (reset mask) = refl

-- ---- so what the contracts allow is what the steps do
pub does : Does aberzhan sounds methods
does = record {
  replies = λ k m o w a. ap (λ (o : Reply aberzhan × Module). o.0) (allowed_is k m o a ∙ call_does k m w.meter);
  leaves = λ k m o w a. ap (λ (o : Reply aberzhan × Module). state_of o.1) (allowed_is k m o a ∙ call_does k m w.meter);
  step_call = step_call;
}
