-- `feed` meets its contract: each turn takes the samples of one interval.
use Prim.Native.Nat.{◌-◌, ◌≤◌}
use mathlib.Core.Path.{◌≡◌}
use lib.ListN.{length, drop}
use Rattle.sample.specs.Sums.{samples_in}
use Rattle.meter.proofs.Sound.{Sound}
use Rattle.meter.specs.Inside.{fed_of}
use Rattle.meter.proofs.Meter.feed.Given as goal

abbrev pub invariant-loop-at : goal.invariant-loop-at
invariant-loop-at l = (l.at ≤ length l.v) × Sound l.self × (fed_of l.self (drop l.at (samples_in l.v l.s1 l.s3)) ≡ fed_of l.initial.self (samples_in l.v l.s1 l.s3))

abbrev pub decreases-loop-at : goal.decreases-loop-at
decreases-loop-at l = length l.v - l.at
