-- The measuring core: document 01's intervals and document 02's alarms (A3) as a `Gauge` of crate `steps`, and the meter as the code keeps it.
use Rattle.std.specs.Prelude.{true, false, not, cond, ◌&&◌, List, eqb, leb, ℤ, length}
use Rattle.steps.specs.Answers.{OrRefusal, refused, accepted, and_then}
use Rattle.steps.specs.Gauge.{Gauge, Meter, Metering}
use Rattle.card.specs.declared.Card.{Card}
use Rattle.sample.specs.declared.Sums.{Sums}
use Rattle.interval.specs.declared.Closed.{Closed}
use Rattle.sample.specs.Sample.{every24}
use Rattle.sample.specs.Sums.{Sample, samples_in, same_length, added, emptied}
use Rattle.interval.specs.Close.{closed_of}
use Rattle.alarm.specs.Alarms.{Watching, both, seen_with, clearing}
use Rattle.meter.specs.declared.Work.{Work}
use Rattle.meter.specs.declared.Meter.{Meter as Kept}

-- 5: slices differ in length, or over 4,096; 6: a sample outside the 24-bit range
unfoldable pub samples_of : List ℤ → List ℤ → List ℤ → OrRefusal (List Sample)
samples_of v s1 s3 =
    cond (same_length v s1 s3 && leb (length v) 4096)
    (cond (every24 v && every24 s1 && every24 s3) (accepted (samples_in v s1 s3)) (refused 6))
    (refused 5)

abbrev pub with_sums : Work → Sums → Work
with_sums w s = record { settings = w.settings; sums = s; any = w.any; last = w.last }

-- the interval that closes, worked with a card; it has N samples
unfoldable pub last_of : Card → Work → Closed
last_of c w = closed_of (not w.any) w.settings c w.sums w.settings.n w.last

unfoldable pub closed_work : Card → Work → Work
closed_work c w = record { settings = w.settings; sums = emptied w.sums; any = true; last = last_of c w }

-- a reset clears alarms, and leaves the voltages
unfoldable pub reset_watch : Watching → ℤ → OrRefusal Watching
reset_watch q mask = and_then (clearing q.watch mask) (λ a. both a q.volts)

-- an interval takes one sample after another, closes with the Nth and before none; the watch sees the corrected voltages
abbrev pub core : Gauge
core = record {
  Card = Card;
  Block = List ℤ × List ℤ × List ℤ;
  Sample = Sample;
  Work = Work;
  Closed = Closed;
  Watch = Watching;
  Mask = ℤ;
  samples_of = λ b. samples_of b.0 b.1 b.2;
  start_interval = λ c w. w;
  add_sample = λ c w x. with_sums w (added c w.settings.config w.sums x);
  breaks = λ c n w x. false;
  full = λ c n w. eqb n w.settings.n;
  close_interval = λ c w. (closed_work c w, last_of c w);
  sees = λ c q x. seen_with c q x.0;
  clear = reset_watch;
}

-- the code's struct as the meter of crate `steps`, and back
abbrev pub meter_of : Kept → Meter core
meter_of m = record { waits = m.waits; waiting = m.waiting; forced = m.forced; force = m.force; taken = m.taken; work = m.work }

abbrev pub kept_of : Meter core → Kept
kept_of m = record { waits = m.waits; waiting = m.waiting; forced = m.forced; force = m.force; taken = m.taken; work = m.work }

-- with the watch, the meter whole
abbrev pub metering_of : Kept → Watching → Metering core
metering_of m q = record { intervals = meter_of m; watch = q }
