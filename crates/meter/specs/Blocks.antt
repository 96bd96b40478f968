-- A card that waits, and a block of samples: 5, 6, 18.
use Rattle.std.specs.Prelude.{Bool, cond, ◌&&◌, ◌||◌, List, leb, ltb, ℤ}
use Rattle.std.proofs.Math.Option.{Option, none}
use Rattle.steps.specs.Answers.{OrRefusal, refused, accepted, and_then}
use Rattle.steps.specs.Gauge.{Metering, latest, waits_for, passes}
use Rattle.card.specs.declared.Card.{Card}
use Rattle.interval.specs.declared.Closed.{Closed}
use Rattle.sample.specs.Sums.{of_at_most, phase_in_range}
use Rattle.alarm.specs.Alarms.{Watching}
use Rattle.halfcycle.specs.Passing.{watch_sound}
use Rattle.meter.specs.declared.Meter.{Meter as Kept}
use Rattle.meter.specs.declared.Fed.{Fed}
use Rattle.meter.specs.Core.{core, samples_of, meter_of, kept_of, metering_of}

-- no sum of the running interval can overflow: it is not full, its sums can be those of as many samples as it has, and the PHASE of the card in
-- force and of the one that waits is in its range. Whatever a start and steps make is so (`proofs/Soundness.antt` of crate `calls`), and
-- other values of the struct are too, one with a gain of 0 for instance.
unfoldable pub sound_of : Kept → Bool
sound_of m =
    let t = m.work.settings in
    leb t.n 4096 && ltb m.taken t.n && of_at_most m.taken m.work.sums && phase_in_range m.waiting && phase_in_range m.force

-- the card of the next interval; a state whose sums could overflow, or whose watch is not sound, which no steps make, counts as one without a card
unfoldable pub next_card : Kept → Watching → Option Card
next_card m q = cond (sound_of m && watch_sound q) (latest core (meter_of m)) none

-- a card is in force or waits
unfoldable pub carded : Kept → Bool
carded m = sound_of m && (m.waits || m.forced)

-- commit: the card waits, replacing any that waits
unfoldable pub wait_of : Card → Kept → Kept
wait_of c m = kept_of (waits_for core c (meter_of m))

-- what a block comes to. 18: no card in force and none waits
unfoldable pub block_done : Kept → Watching → List ℤ → List ℤ → List ℤ → OrRefusal (Metering core × List Closed)
block_done m q v s1 s3 = passes core (samples_of v s1 s3) (next_card m q) (metering_of m q)

-- meter and watch after it
abbrev pub fed : Metering core × List Closed → Fed
fed r = record { meter = kept_of r.0.intervals; watch = r.0.watch.watch }

unfoldable pub block_of : Kept → Watching → List ℤ → List ℤ → List ℤ → OrRefusal Fed
block_of m q v s1 s3 = and_then (block_done m q v s1 s3) fed

-- and the voltages: as they came, if refused
abbrev pub volts_in : Watching → OrRefusal (Metering core × List Closed) → List ℤ
volts_in q (refused n) = q.volts
volts_in q (accepted r) = r.0.watch.volts

unfoldable pub volts_of : Kept → Watching → List ℤ → List ℤ → List ℤ → List ℤ
volts_of m q v s1 s3 = volts_in q (block_done m q v s1 s3)
