-- What the meter's own functions do: samples fed, and an interval's samples at a time. No public contract rests on it.
use Rattle.std.specs.Prelude.{ℕ, ◌+◌, ◌-◌, cond, List, eqb, ℤ, length}
use Rattle.steps.specs.Answers.{OrRefusal, accepted, and_then}
use Rattle.steps.specs.Gauge.{samples, begun, passes}
use Rattle.card.specs.declared.Card.{Card}
use Rattle.sample.specs.Sums.{Sample, samples_in, added_all}
use Rattle.alarm.specs.Alarms.{Watching}
use Rattle.meter.specs.declared.Work.{Work}
use Rattle.meter.specs.declared.Meter.{Meter as Kept}
use Rattle.meter.specs.declared.Fed.{Fed}
use Rattle.meter.specs.Core.{core, meter_of, kept_of, metering_of, with_sums, closed_work}
use Rattle.meter.specs.Blocks.{next_card, fed, volts_in}

-- samples, taken one after another
unfoldable pub fed_of : Kept → List Sample → Kept
fed_of m xs = kept_of (samples core xs (meter_of m)).0

-- ---- the same, an interval's samples at a time
-- at an interval's first sample a committed card, if one waits, comes into force
unfoldable pub begun_of : Kept → Kept
begun_of m = cond (eqb m.taken 0) (kept_of (begun core (meter_of m))) m

-- the running interval has n samples now, with the sums of w; the Nth closes it
unfoldable pub end_of : ℕ → Work → Kept → Kept
end_of n w m =
    cond (eqb n w.settings.n)
    (record { waits = m.waits; waiting = m.waiting; forced = m.forced; force = m.force; taken = 0; work = closed_work m.force w })
    (record { waits = m.waits; waiting = m.waiting; forced = m.forced; force = m.force; taken = n; work = w })

-- samples of one interval, at most to its end
unfoldable pub stretch_of : Kept → List Sample → Kept
stretch_of m xs = let q = begun_of m in end_of (m.taken + length xs) (with_sums q.work (added_all q.force q.work.settings.config q.work.sums xs)) q

-- ---- the watch over a block: a card that waits comes into force once in it, at the next interval's first sample

-- the card of the next interval
unfoldable pub card_behind : Kept → Card
card_behind m = cond m.waits m.waiting m.force

-- how many samples come before that interval
unfoldable pub turn_of : Kept → ℕ
turn_of m = cond (eqb m.taken 0) 0 (m.work.settings.n - m.taken)

-- a block whose samples are well formed
unfoldable pub passed_of : Kept → Watching → List ℤ → List ℤ → List ℤ → OrRefusal Fed
passed_of m q v s1 s3 = and_then (passes core (accepted (samples_in v s1 s3)) (next_card m q) (metering_of m q)) fed

unfoldable pub volts_passed : Kept → Watching → List ℤ → List ℤ → List ℤ → List ℤ
volts_passed m q v s1 s3 = volts_in q (passes core (accepted (samples_in v s1 s3)) (next_card m q) (metering_of m q))
