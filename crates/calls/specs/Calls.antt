-- A program's calls of the module's methods: the step that a call asks for, and what the definitions say that it returns.
use Rattle.std.specs.Prelude.{ℕ, List, [], ◌∷◌, ℤ, pos}
use Rattle.std.proofs.Math.Option.{Option, none, some}
use Rattle.steps.specs.Answers.{OrRefusal, refused, accepted}
use Rattle.steps.specs.Port.{Port, port0, port1}
use Rattle.steps.specs.Module.{edit, commit, drop_card, hold, read, Step, at_port, block, reset, State}
use Rattle.steps.specs.Calls.{Reply, refuses, done, returns, Log, none_called, noted}
use Rattle.address.specs.declared.ByteAddr.{ByteAddr}
use Rattle.meter.specs.Core.{kept_of, metering_of}
use Rattle.desk.specs.Desks.{open_with, write_field}
use Rattle.port.specs.Holds.{interval, register}
use Rattle.aberzhan.specs.declared.Module.{Module}
use Rattle.aberzhan.specs.declared.Holding.{Holding}
use Rattle.calls.specs.Ports.{aberzhan}
use Rattle.aberzhan.specs.Module.{Outcome, watch_of, port_at, open_of, write_of, commit_of, drop_of, hold_of, read_of, block_of, reset_of}

-- ---- the struct as the state of crate `steps`, and back

abbrev pub state_of : Module → State aberzhan
state_of m = record {
  meter = metering_of m.meter (watch_of m);
  desks = record { on0 = m.desk0; on1 = m.desk1 };
  holds = record { on0 = m.hold0; on1 = m.hold1 };
}

abbrev pub module_of : State aberzhan → Module
module_of s = record {
  meter = kept_of s.meter.intervals;
  watch = s.meter.watch.watch;
  volts = s.meter.watch.volts;
  desk0 = s.desks.on0;
  desk1 = s.desks.on1;
  hold0 = s.holds.on0;
  hold1 = s.holds.on1;
}

-- ---- a call, with the numbers as the caller gives them

pub data Call : Type 0 where
  call_open : ℤ → List ℕ → Call  -- port, the serial's text
  call_write : ℤ → ℤ → ℤ → Call  -- port, field, value
  call_commit call_drop call_hold : ℤ → Call  -- port
  call_read : ℤ → ByteAddr → Call  -- port, byte address
  call_block : List ℤ → List ℤ → List ℤ → Call  -- voltage, S1, S3
  call_reset : ℤ → Call  -- mask

-- the step that a call asks for, and a call that asks for a step
abbrev pub step_of : Call → Step aberzhan
step_of (call_open p text) = at_port (port_at p) (edit (open_with text))
step_of (call_write p field v) = at_port (port_at p) (edit (write_field field v))
step_of (call_commit p) = at_port (port_at p) commit
step_of (call_drop p) = at_port (port_at p) drop_card
step_of (call_hold p) = at_port (port_at p) (hold tt)
step_of (call_read p a) = at_port (port_at p) (read a)
step_of (call_block v s1 s3) = block (v, s1, s3)
step_of (call_reset mask) = reset mask

-- (2 stands for every number that is no port)
abbrev pub number_of : Option Port → ℤ
number_of (some port0) = pos 0
number_of (some port1) = pos 1
number_of none = pos 2

abbrev pub call_of : Step aberzhan → Call
call_of (at_port o (edit (open_with text))) = call_open (number_of o) text
call_of (at_port o (edit (write_field field v))) = call_write (number_of o) field v
call_of (at_port o commit) = call_commit (number_of o)
call_of (at_port o drop_card) = call_drop (number_of o)
call_of (at_port o (hold k)) = call_hold (number_of o)
call_of (at_port o (read a)) = call_read (number_of o) a
call_of (block b) = call_block b.0 b.1 b.2
call_of (reset mask) = call_reset mask

-- ---- what a call returns: the reply and the module after it

-- the number that says no, or what is replied to an answer
abbrev pub reply_by : {A : Type 0} → (A → Reply aberzhan) → OrRefusal A → Reply aberzhan
reply_by f (refused n) = refuses n
reply_by f (accepted a) = f a

-- a step that tells nothing: the word that it is done
abbrev pub step_reply : OrRefusal (Unit {0}) → Reply aberzhan
step_reply q = reply_by (λ u. done) q

-- a hold that is done returns the interval's number, its serial and its counts of clipped samples, and the alarms
abbrev pub hold_reply : OrRefusal Holding → Reply aberzhan
hold_reply q = reply_by (λ h. returns (interval h.number h.serial h.clips h.alarms)) q

-- a read returns the value of a register
abbrev pub read_reply : OrRefusal ℤ → Reply aberzhan
read_reply q = reply_by (λ v. returns (register v)) q

abbrev pub from_step : Outcome (Unit {0}) → Reply aberzhan × Module
from_step r = (step_reply r.answer, r.after)

abbrev pub from_hold : Outcome Holding → Reply aberzhan × Module
from_hold r = (hold_reply r.answer, r.after)

-- a read leaves the module that it reads
abbrev pub from_read : OrRefusal ℤ → Module → Reply aberzhan × Module
from_read q m = (read_reply q, m)

abbrev pub returned : Call → Module → Reply aberzhan × Module
returned (call_open p text) m = from_step (open_of m p text)
returned (call_write p field v) m = from_step (write_of m p field v)
returned (call_commit p) m = from_step (commit_of m p)
returned (call_drop p) m = from_step (drop_of m p)
returned (call_hold p) m = from_hold (hold_of m p)
returned (call_read p a) m = from_read (read_of m p a) m
returned (call_block v s1 s3) m = from_step (block_of m v s1 s3)
returned (call_reset mask) m = from_step (reset_of m mask)

-- calls, one after the other, each with the module that the one before left
abbrev pub program : List Call → Module → Log aberzhan Module
program [] m = none_called aberzhan Module m
program (k ∷ ks) m = let r = returned k m in noted aberzhan Module (step_of k) r.0 (program ks r.1)
