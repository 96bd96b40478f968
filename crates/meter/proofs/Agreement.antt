-- The code's block and the block of crate `steps` agree: a sound state passes the test, samples and a waiting card keep it sound, and for a sound
-- state 18 is given exactly when no card is in force and none waits.
use Prim.Native.Nat.{ℕ}
use mathlib.Core.Path.{◌≡◌, sym, ap, ap₂, subst}
use mathlib.Core.Bool.{Bool, true, cond, ◌&&◌, ◌||◌}
use mathlib.Core.List.{List, [], ◌∷◌}
use mathlib.Core.Option.{Option, none, some}
use native.Mathlib.Omega.{arith}
use lib.IntN.{ℤ}
use Rattle.steps.specs.Answers.{OrRefusal, refused, accepted}
use Rattle.steps.specs.Gauge.{Meter, latest, feeds, samples, waits_for, passes}
use Rattle.alarm.specs.Alarms.{Watching}
use Rattle.halfcycle.specs.Passing.{watch_sound}
use Rattle.card.specs.declared.Card.{Card}
use Rattle.interval.specs.declared.Closed.{Closed}
use Rattle.sample.specs.Sums.{Sample}
use Rattle.meter.specs.declared.Meter.{Meter as Kept}
use Rattle.meter.proofs.Sound.{Sound, sound_yes}
use Rattle.sample.specs.Inside.{Phased}
use Rattle.meter.specs.Core.{core, samples_of, meter_of, kept_of, metering_of}
use Rattle.meter.specs.Inside.{fed_of}
use Rattle.meter.specs.Blocks.{next_card, carded, block_done}
use Rattle.meter.proofs.Stretches.{fed_is, fed_append, fed_none}
use Rattle.meter.proofs.Keeping.{stretch_sound}

-- ---- so the code's block is the core's
pub block_passes : (m : Kept) (q : Watching) (v s1 s3 : List ℤ) → Sound m → watch_sound q ≡ true →
    block_done m q v s1 s3 ≡ passes core (samples_of v s1 s3) (latest core (meter_of m)) (metering_of m q)
unfolding block_done next_card
block_passes m q v s1 s3 h w =
    ap₂ (λ (s : Bool) (t : Bool). passes core (samples_of v s1 s3) (cond (s && t) (latest core (meter_of m)) none) (metering_of m q)) (sound_yes m h) w

-- for a sound state there is a card exactly when one is in force or waits
pub carded_is : (m : Kept) → Sound m → carded m ≡ (m.waits || m.forced)
unfolding carded
carded_is m h = ap (λ (t : Bool). t && (m.waits || m.forced)) (sound_yes m h)

-- ---- and a sound state stays sound
one_sound : (m : Kept) (x : Sample) → Sound m → Sound (fed_of m (x ∷ []))
one_sound m x h =
    subst (λ (q : Kept). Sound q) (sym (fed_is m (x ∷ []) (omega arith) (omega (arith, h.taken_most))))
    (stretch_sound m (x ∷ []) h (omega (arith, h.taken_most)))

pub fed_sound : (xs : List Sample) (m : Kept) → Sound m → Sound (fed_of m xs)
fed_sound [] m h = subst (λ (q : Kept). Sound q) (sym (fed_none m)) h
fed_sound (x ∷ xs) m h = subst (λ (q : Kept). Sound q) (sym (fed_append m (x ∷ []) xs)) (fed_sound xs (fed_of m (x ∷ [])) (one_sound m x h))

samples_sound : (xs : List Sample) (m : Meter core) → Sound (kept_of m) → Sound (kept_of (samples core xs m).0)
unfolding fed_of
samples_sound xs m h = fed_sound xs (kept_of m) h

never : {A B : Type 0} {n : ℕ} {q : A} → refused n ≡ accepted q → B
never e = let z : ◌≡◌ {A = ℕ} 0 1 = cc in absurd (omega arith)

pub feeds_sound : (r : OrRefusal (List Sample)) (o : Option Card) (m : Meter core) (q : Meter core × List Closed) → feeds core r o m ≡ accepted q → Sound (kept_of m) → Sound (kept_of q.0)
feeds_sound (refused n) o m q e h = never e
feeds_sound (accepted xs) none m q e h = never e
feeds_sound (accepted xs) (some c) m q e h =
    let k : samples core xs m ≡ q = cc in
    subst (λ (q : Meter core × List Closed). Sound (kept_of q.0)) k (samples_sound xs m h)

pub wait_sound : (m : Meter core) (c : Card) → Phased c → Sound (kept_of m) → Sound (kept_of (waits_for core c m))
wait_sound m c p h = record { n_most = h.n_most; taken_most = h.taken_most; room = h.room; waiting = p; force = h.force }
