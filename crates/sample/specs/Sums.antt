-- What is kept of the running interval's samples, one sample after another.
use Rattle.std.specs.Prelude.{ℕ, ◌+◌, ◌*◌, ◌^◌, max, Bool, true, false, cond, ◌&&◌, List, [], ◌∷◌, eqb, leb, ℤ, pos, nat_abs, ◌+ℤ◌, ◌*ℤ◌, length}
use Rattle.number.specs.Sign.{square_of}
use Rattle.card.specs.declared.Card.{Card}
use Rattle.card.specs.Fields.{field_in_range}
use Rattle.source.specs.Sources.{IA, IB, multipliers_of}
use Rattle.sample.specs.declared.Inputs.{Inputs}
use Rattle.sample.specs.declared.Flow.{Flow}
use Rattle.sample.specs.declared.Clips.{Clips}
use Rattle.sample.specs.declared.Sums.{Sums}
use Rattle.sample.specs.Fields.{field}
use Rattle.sample.specs.Sample.{voltage, voltage_clipped, input_clipped, source_current}

-- a sample of corrected voltage v and of a source's current i joins the sums of that source
unfoldable pub joined : Flow → ℤ → ℤ → Flow
joined f v i = record { ii = f.ii + square_of i; vi = f.vi +ℤ v *ℤ i; peak = max f.peak (nat_abs i) }

-- one if it is so
abbrev pub one_if : Bool → ℕ
one_if b = cond b 1 0

-- a sample of which the voltage was clipped, or not, and the input S1, and the input S3, joins the counts of clipped ones
unfoldable pub counted : Clips → Bool → Bool → Bool → Clips
counted k v s1 s3 = record { v = k.v + one_if v; s1 = k.s1 + one_if s1; s3 = k.s3 + one_if s3 }

-- the previous raw inputs; for the module's first sample they are those of that sample itself
unfoldable pub previous : Sums → Inputs → Inputs
previous s raw = cond s.seen s.raw raw

-- one sample more: corrected voltage v, the currents ia and ib of both sources, and which of its three values were clipped; its raw inputs are
-- kept for the next
unfoldable pub summed : Sums → ℤ → ℤ → ℤ → Bool → Bool → Bool → Inputs → Sums
summed s v ia ib v-clipped s1-clipped s3-clipped raw = record {
  vv = s.vv + square_of v;
  a = joined s.a v ia;
  b = joined s.b v ib;
  clips = counted s.clips v-clipped s1-clipped s3-clipped;
  seen = true;
  raw = raw;
}

-- a sample: its raw voltage and its raw inputs
abbrev pub Sample : Type 0
Sample = ℤ × Inputs

-- one sample more, by a card and the board's configuration. The previous inputs were counted with their own sample, and are not again; a source
-- that is clipped is not counted
unfoldable pub added : Card → ℕ → Sums → Sample → Sums
added c config s x =
    let v = x.0 in
    let raw = x.1 in
    let before = previous s raw in
    summed s (voltage c v) (source_current c (multipliers_of IA config) raw before) (source_current c (multipliers_of IB config) raw before)
    (voltage_clipped c v) (input_clipped c raw.s1) (input_clipped c raw.s3) raw

-- the samples of three slices: a voltage, an S1 and an S3 each
unfoldable pub samples_in : List ℤ → List ℤ → List ℤ → List Sample
samples_in [] s1 s3 = []
samples_in (v ∷ vs) [] s3 = []
samples_in (v ∷ vs) (x ∷ xs) [] = []
samples_in (v ∷ vs) (x ∷ xs) (y ∷ ys) = (v, record { s1 = x; s3 = y }) ∷ samples_in vs xs ys

-- samples, one after another
unfoldable pub added_all : Card → ℕ → Sums → List Sample → Sums
added_all c config s [] = s
added_all c config s (x ∷ xs) = added_all c config (added c config s x) xs

-- sums of nothing
abbrev pub no_flow : Flow
no_flow = record { ii = 0; vi = pos 0; peak = 0 }

abbrev pub no_clips : Clips
no_clips = record { v = 0; s1 = 0; s3 = 0 }

-- between two intervals only the last raw inputs are kept
unfoldable pub emptied : Sums → Sums
emptied s = record { vv = 0; a = no_flow; b = no_flow; clips = no_clips; seen = s.seen; raw = s.raw }

-- before the module's first sample
abbrev pub no_sums : Sums
no_sums = record { vv = 0; a = no_flow; b = no_flow; clips = no_clips; seen = false; raw = record { s1 = pos 0; s3 = pos 0 } }

-- ---- where no sum can pass 64 bits, and no count 32

-- a source's sums are not over n times 2^46, the greatest square and the greatest product of numbers of the 24-bit range
unfoldable pub flow_within : ℕ → Flow → Bool
flow_within n f = leb f.ii (n * 2 ^ 46) && leb (nat_abs f.vi) (n * 2 ^ 46)

-- no more than n were clipped
unfoldable pub clips_within : ℕ → Clips → Bool
clips_within n k = leb k.v n && leb k.s1 n && leb k.s3 n

-- these can be the sums of at most n samples, and n is no more than an interval can have
unfoldable pub of_at_most : ℕ → Sums → Bool
of_at_most n s = leb n 4096 && leb s.vv (n * 2 ^ 46) && flow_within n s.a && flow_within n s.b && clips_within n s.clips

-- the card's PHASE is in its range
unfoldable pub phase_in_range : Card → Bool
phase_in_range c = field_in_range (pos 5) (field c 5)

-- three slices of one length
unfoldable pub same_length : List ℤ → List ℤ → List ℤ → Bool
same_length v s1 s3 = eqb (length v) (length s1) && eqb (length v) (length s3)

-- the samples of three slices may join the sums of n samples: as many of each, and no more than 4,096 samples in all
unfoldable pub has_room : ℕ → Card → Sums → List ℤ → List ℤ → List ℤ → Bool
has_room n c s v s1 s3 = same_length v s1 s3 && leb (n + length v) 4096 && of_at_most n s && phase_in_range c

-- they join where they may; else the sums stay as they are
unfoldable pub with_samples : ℕ → Card → ℕ → Sums → List ℤ → List ℤ → List ℤ → Sums
with_samples n c config s v s1 s3 = cond (has_room n c s v s1 s3) (added_all c config s (samples_in v s1 s3)) s
