-- The sums kept sample by sample are those over the whole list of samples, so the close is that of the whole interval.
use Rattle.std.proofs.Common.{◌≡◌, ℕ, ◌+◌, max, Bool, true, List, [], ◌∷◌, length, ℤ, ◌+ℤ◌, ◌*ℤ◌, sym, refl, ap, ◌∙◌, add_assoc, arith}
use lib.IntN.{+ℤ_assoc, +ℤ_idl, +ℤ_idr}
use Rattle.number.specs.Sign.{square_of}
use Rattle.card.specs.declared.Card.{Card}
use Rattle.source.specs.Sources.{Current, IA, IB, multipliers_of}
use Rattle.sample.specs.declared.Inputs.{Inputs}
use Rattle.sample.specs.declared.Flow.{Flow}
use Rattle.sample.specs.declared.Clips.{Clips}
use Rattle.sample.specs.declared.Sums.{Sums}
use Rattle.rules.specs.Source.{vrms_of}
use Rattle.interval.specs.declared.Settings.{Settings}
use Rattle.interval.specs.declared.Closed.{Closed}
use Rattle.sample.specs.Sample.{voltage, voltage_clipped, input_clipped, source_current}
use Rattle.sample.specs.Sums.{Sample, joined, one_if, counted, previous, summed, added, added_all, emptied, no_flow}
use Rattle.interval.specs.Whole.{Worked, worked, total, balance, largest, voltage_squares, flow_of, clips_of, last_raw, sums_of, interval_of}
use Rattle.interval.specs.Close.{source_after, results_of, registers_after, closed_of}

-- ---- one source's sums, with samples joined to them
abbrev join_flow : Flow → List Worked → Flow
join_flow f ys = record { ii = f.ii + (flow_of ys).ii; vi = f.vi +ℤ (flow_of ys).vi; peak = max f.peak (flow_of ys).peak }

-- two such sums with equal parts are equal
flow_same : {ii ii' peak peak' : ℕ} {vi vi' : ℤ} → ii ≡ ii' → vi ≡ vi' → peak ≡ peak' →
    ◌≡◌ {A = Flow} (record { ii = ii; vi = vi; peak = peak }) (record { ii = ii'; vi = vi'; peak = peak' })
flow_same a b c = rw (a, b, c)

flow_none : (f : Flow) → f ≡ join_flow f []
unfolding flow_of total balance largest
flow_none f = flow_same (omega arith) (sym (+ℤ_idr f.vi)) (omega arith)

flow_one : (f : Flow) (v i : ℤ) (ys : List Worked) → join_flow (joined f v i) ys ≡ join_flow f ((v, i) ∷ ys)
unfolding joined flow_of total balance largest
flow_one f v i ys = flow_same (omega arith) (+ℤ_assoc f.vi (v *ℤ i) (flow_of ys).vi) (omega arith)

flow_all : (ys : List Worked) → join_flow no_flow ys ≡ flow_of ys
unfolding flow_of
flow_all ys = flow_same (omega arith) (+ℤ_idl (flow_of ys).vi) (omega arith)

-- ---- the counts
abbrev join_clips : Clips → Clips → Clips
join_clips j k = record { v = j.v + k.v; s1 = j.s1 + k.s1; s3 = j.s3 + k.s3 }

clips_same : {v v' s1 s1' s3 s3' : ℕ} → v ≡ v' → s1 ≡ s1' → s3 ≡ s3' →
    ◌≡◌ {A = Clips} (record { v = v; s1 = s1; s3 = s3 }) (record { v = v'; s1 = s1'; s3 = s3' })
clips_same a b c = rw (a, b, c)

-- ---- all sums
sums_same : {vv vv' : ℕ} {a a' b b' : Flow} {k k' : Clips} {raw : Inputs} → vv ≡ vv' → a ≡ a' → b ≡ b' → k ≡ k' →
    ◌≡◌ {A = Sums} (record { vv = vv; a = a; b = b; clips = k; seen = true; raw = raw })
    (record { vv = vv'; a = a'; b = b'; clips = k'; seen = true; raw = raw })
sums_same p q r s = rw (p, q, r, s)

module _ (c : Card) (g : ℕ) where
  -- the sums s, with samples joined to them, of which the first has these raw inputs before it
  abbrev joined_all : Sums → Inputs → List Sample → Sums
  joined_all s before xs = record {
    vv = s.vv + voltage_squares c xs;
    a = join_flow s.a (worked c (multipliers_of IA g) before xs);
    b = join_flow s.b (worked c (multipliers_of IB g) before xs);
    clips = join_clips s.clips (clips_of c xs);
    seen = true;
    raw = last_raw before xs;
  }

  none_joined : (s : Sums) → s.seen ≡ true → s ≡ joined_all s s.raw []
  unfolding voltage_squares worked clips_of total last_raw
  none_joined s e = by s.seen e
    where
      by : (b : Bool) → b ≡ true → record { vv = s.vv; a = s.a; b = s.b; clips = s.clips; seen = b; raw = s.raw } ≡ joined_all s s.raw []
      by b p = rw p (sums_same (omega arith) (flow_none s.a) (flow_none s.b) (clips_same (omega arith) (omega arith) (omega arith)))

  one_joined : (s : Sums) (x : Sample) (xs : List Sample) → joined_all (added c g s x) x.1 xs ≡ joined_all s (previous s x.1) (x ∷ xs)
  unfolding added summed counted voltage_squares worked clips_of total last_raw
  one_joined s x xs =
      let now = x.1 in
      let before = previous s now in
      let v = voltage c x.0 in
      let a = multipliers_of IA g in
      let b = multipliers_of IB g in
      let k = clips_of c xs in
      sums_same
      (add_assoc s.vv (square_of v) (voltage_squares c xs))
      (flow_one s.a v (source_current c a now before) (worked c a now xs))
      (flow_one s.b v (source_current c b now before) (worked c b now xs))
      (clips_same
      (add_assoc s.clips.v (one_if (voltage_clipped c x.0)) k.v)
      (add_assoc s.clips.s1 (one_if (input_clipped c now.s1)) k.s1)
      (add_assoc s.clips.s3 (one_if (input_clipped c now.s3)) k.s3))

  previous_seen : (s : Sums) (raw : Inputs) → s.seen ≡ true → previous s raw ≡ s.raw
  unfolding previous
  previous_seen s raw e = rw e refl

  -- from sums that saw a sample before
  pub added_on : (s : Sums) (xs : List Sample) → s.seen ≡ true → added_all c g s xs ≡ joined_all s s.raw xs
  unfolding added_all added summed
  added_on s [] e = none_joined s e
  added_on s (x ∷ xs) e =
      added_on (added c g s x) xs refl
      ∙ one_joined s x xs
      ∙ ap (λ (b : Inputs). joined_all s b (x ∷ xs)) (previous_seen s x.1 e)

  -- sums of nothing, with samples joined to them, are those of the samples
  all_joined : (s : Sums) (before : Inputs) (xs : List Sample) → joined_all (emptied s) before xs ≡ sums_of c g before xs
  unfolding emptied sums_of clips_of
  all_joined s before xs =
      sums_same (omega arith) (flow_all (worked c (multipliers_of IA g) before xs)) (flow_all (worked c (multipliers_of IB g) before xs))
      (clips_same (omega arith) (omega arith) (omega arith))

  -- an interval's sums, from what the last one left: its first sample's previous raw inputs are the last ones seen, or its own where none were
  pub sums_are : (s : Sums) (x : Sample) (xs : List Sample) → added_all c g (emptied s) (x ∷ xs) ≡ sums_of c g (previous s x.1) (x ∷ xs)
  unfolding added_all added summed emptied previous
  sums_are s x xs =
      added_on (added c g (emptied s) x) xs refl ∙ one_joined (emptied s) x xs ∙ all_joined s (previous s x.1) (x ∷ xs)

-- so an interval closes as it is worked from its samples
pub closes_whole : (first : Bool) (t : Settings) (c : Card) (s : Sums) (x : Sample) (xs : List Sample) (old : Closed) →
    closed_of first t c (added_all c t.config (emptied s) (x ∷ xs)) (length (x ∷ xs)) old ≡ interval_of first t c (previous s x.1) (x ∷ xs) old
unfolding interval_of
closes_whole first t c s x xs old = ap (λ (z : Sums). closed_of first t c z (length (x ∷ xs)) old) (sums_are c t.config s x xs)

-- ---- what is shown of a source: IA and IB close alike, each of its own
abbrev pub flow_in : Current → Sums → Flow
flow_in IA s = s.a
flow_in IB s = s.b

pub source_closed : (first : Bool) (t : Settings) (c : Card) (s : Sums) (n : ℕ) (old : Closed) (w : Current) →
    results_of w (closed_of first t c s n old).regs ≡ source_after c (vrms_of s.vv n) (flow_in w s) n t.b (results_of w old.regs)
unfolding closed_of registers_after
source_closed first t c s n old IA = refl
source_closed first t c s n old IB = refl

pub source_whole : (first : Bool) (t : Settings) (c : Card) (before : Inputs) (xs : List Sample) (old : Closed) (w : Current) →
    results_of w (interval_of first t c before xs old).regs
    ≡ source_after c (vrms_of (voltage_squares c xs) (length xs)) (flow_of (worked c (multipliers_of w t.config) before xs)) (length xs) t.b (results_of w old.regs)
unfolding interval_of closed_of registers_after sums_of
source_whole first t c before xs old IA = refl
source_whole first t c before xs old IB = refl
