-- The ways through a block: which test leads to which answer.
use Prim.Native.Nat.{ℕ}
use mathlib.Core.Path.{◌≡◌, refl, sym, ap, ap₂, ◌∙◌}
use mathlib.Core.Bool.{Bool, true, false, cond, ◌&&◌, ◌||◌, true≢false}
use mathlib.Core.List.{List}
use mathlib.Core.Option.{Option, none, some}
use lib.Dec.{leb}
use lib.IntN.{ℤ}
use lib.ListN.{length}
use Rattle.steps.specs.Answers.{OrRefusal, refused, accepted, and_then}
use Rattle.steps.specs.Gauge.{Metering, latest, samples, watches, passes}
use Rattle.card.specs.declared.Card.{Card}
use Rattle.meter.specs.declared.Meter.{Meter as Kept}
use Rattle.meter.specs.declared.Fed.{Fed}
use Rattle.interval.specs.declared.Closed.{Closed}
use Rattle.sample.specs.Sums.{Sample, samples_in, same_length}
use Rattle.sample.specs.Sample.{every24}
use Rattle.sample.proofs.Tests.{both_of}
use Rattle.alarm.specs.Alarms.{Watching}
use Rattle.halfcycle.specs.Passing.{watch_sound}
use Rattle.meter.specs.Core.{core, samples_of, meter_of, kept_of, metering_of}
use Rattle.meter.specs.Inside.{fed_of, passed_of, volts_passed}
use Rattle.meter.specs.Blocks.{sound_of, next_card, carded, block_done, fed, block_of, volts_in, volts_of}

-- ---- the ways through a block
-- which card, by the flags
by_flags : (w f : Bool) (a b : Card) → w || f ≡ true → (c : Card) × (cond w (some a) (cond f (some b) none) ≡ some c)
by_flags true f a b e = (a, refl)
by_flags false true a b e = (b, refl)
by_flags false false a b e = absurd (true≢false (sym e))

no_flags : (w f : Bool) (a b : Card) → w || f ≡ false → cond w (some a) (cond f (some b) none) ≡ none
no_flags true f a b e = absurd (true≢false e)
no_flags false true a b e = absurd (true≢false e)
no_flags false false a b e = refl

card_some : (m : Kept) (q : Watching) → carded m ≡ true → watch_sound q ≡ true → (c : Card) × (next_card m q ≡ some c)
unfolding carded next_card
card_some m q e w =
    let b = both_of (sound_of m) (m.waits || m.forced) e in
    let f = by_flags m.waits m.forced m.waiting m.force b.1 in
    (f.0, ap₂ (λ (s : Bool) (t : Bool). cond (s && t) (latest core (meter_of m)) none) b.0 w ∙ f.1)

card_by : (s t : Bool) (m : Kept) → s && (m.waits || m.forced) ≡ false → cond (s && t) (latest core (meter_of m)) none ≡ none
card_by true true m e = no_flags m.waits m.forced m.waiting m.force e
card_by true false m e = refl
card_by false t m e = refl

pub card_none : (m : Kept) (q : Watching) → carded m ≡ false → next_card m q ≡ none
unfolding carded next_card
card_none m q e = card_by (sound_of m) (watch_sound q) m e

pub watch_none : (m : Kept) (q : Watching) → watch_sound q ≡ false → next_card m q ≡ none
unfolding next_card
watch_none m q e = ap (λ (t : Bool). cond (sound_of m && t) (latest core (meter_of m)) none) e ∙ by (sound_of m)
  where
    by : (s : Bool) → cond (s && false) (latest core (meter_of m)) none ≡ none
    by true = refl
    by false = refl

-- what the code says of it
abbrev says : OrRefusal (Metering core × List Closed) → OrRefusal Fed
says r = and_then r fed

module _ (m : Kept) (q : Watching) (v s1 s3 : List ℤ) where
  -- ---- samples that are well formed

  pub pass_18 : next_card m q ≡ none → (refused 18 ≡ passed_of m q v s1 s3) × (q.volts ≡ volts_passed m q v s1 s3)
  unfolding passed_of volts_passed
  pass_18 e =
      let by : passes core (accepted (samples_in v s1 s3)) (next_card m q) (metering_of m q) ≡ refused 18 = ap (λ (o : Option Card). passes core (accepted (samples_in v s1 s3)) o (metering_of m q)) e in
      (sym (ap says by), sym (ap (volts_in q) by))

  pub pass_done : (z : Watching) → carded m ≡ true → watch_sound q ≡ true → z ≡ watches core (samples_in v s1 s3) (meter_of m) q →
      (accepted (record { meter = fed_of m (samples_in v s1 s3); watch = z.watch }) ≡ passed_of m q v s1 s3) × (z.volts ≡ volts_passed m q v s1 s3)
  unfolding passed_of volts_passed fed_of
  pass_done z c w e =
      let xs = samples_in v s1 s3 in
      let f = card_some m q c w in
      let by = ap (λ (o : Option Card). passes core (accepted xs) o (metering_of m q)) f.1 in (
        ap (λ (z : Watching). accepted (record { meter = kept_of (samples core xs (meter_of m)).0; watch = z.watch })) e ∙ sym (ap says by),
        ap (λ (z : Watching). z.volts) e ∙ sym (ap (volts_in q) by),
      )

  -- ---- the tests before it

  abbrev in_range : Bool
  in_range = every24 v && every24 s1 && every24 s3

  abbrev fits : Bool
  fits = same_length v s1 s3 && leb (length v) 4096

  unequal : fits ≡ false → samples_of v s1 s3 ≡ refused 5
  unfolding samples_of
  unequal e = rw e

  by_range : (b : Bool) → fits ≡ true → in_range ≡ b → samples_of v s1 s3 ≡ cond b (accepted (samples_in v s1 s3)) (refused 6)
  unfolding samples_of
  by_range b e r = rw (e, r)

  abbrev Refuses : ℕ → Type 0
  Refuses n = (refused n ≡ block_of m q v s1 s3) × (q.volts ≡ volts_of m q v s1 s3)

  refusal : (n : ℕ) → samples_of v s1 s3 ≡ refused n → Refuses n
  unfolding block_of volts_of block_done
  refusal n e =
      let by = ap (λ (r : OrRefusal (List Sample)). passes core r (next_card m q) (metering_of m q)) e in
      (sym (ap says by), sym (ap (volts_in q) by))

  pub block_5 : fits ≡ false → Refuses 5
  block_5 e = refusal 5 (unequal e)

  pub block_6 : fits ≡ true → in_range ≡ false → Refuses 6
  block_6 e r = refusal 6 (by_range false e r)

  pub block_pass : fits ≡ true → in_range ≡ true →
      (passed_of m q v s1 s3 ≡ block_of m q v s1 s3) × (volts_passed m q v s1 s3 ≡ volts_of m q v s1 s3)
  unfolding block_of volts_of block_done passed_of volts_passed
  block_pass e r =
      let by = sym (ap (λ (r : OrRefusal (List Sample)). passes core r (next_card m q) (metering_of m q)) (by_range true e r)) in
      (ap says by, ap (volts_in q) by)
