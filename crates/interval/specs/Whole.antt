-- A whole interval, worked from its card, the board's configuration and the list of its samples alone: what one works out by hand from documents 01 and 02
-- (A1, A2, A5).
-- `proofs/Wholes.antt` shows that the sums which are kept sample by sample are these.
use Rattle.std.specs.Prelude.{ℕ, ◌+◌, max, Bool, true, List, [], ◌∷◌, length, ℤ, pos, ◌+ℤ◌, ◌*ℤ◌, unsigned_abs}
use Rattle.number.specs.Sign.{square_of}
use Rattle.card.specs.declared.Card.{Card}
use Rattle.source.specs.declared.Multipliers.{Multipliers}
use Rattle.source.specs.Sources.{IA, IB, multipliers_of}
use Rattle.sample.specs.declared.Inputs.{Inputs}
use Rattle.sample.specs.declared.Flow.{Flow}
use Rattle.sample.specs.declared.Clips.{Clips}
use Rattle.sample.specs.declared.Sums.{Sums}
use Rattle.interval.specs.declared.Settings.{Settings}
use Rattle.interval.specs.declared.Closed.{Closed}
use Rattle.sample.specs.Sample.{voltage, voltage_clipped, input_clipped, source_current}
use Rattle.sample.specs.Sums.{Sample, one_if}
use Rattle.interval.specs.Close.{closed_of}

-- a sample as a source sees it: the corrected voltage and the source's current
abbrev pub Worked : Type 0
Worked = ℤ × ℤ

-- each sample for a source with these multipliers; `before` are the raw inputs before the first
unfoldable pub worked : Card → Multipliers → Inputs → List Sample → List Worked
worked c m before [] = []
worked c m before (x ∷ xs) = (voltage c x.0, source_current c m x.1 before) ∷ worked c m x.1 xs

-- a sum over a list, of sizes and of signed numbers, and the largest size
unfoldable pub total : {A : Type 0} → (A → ℕ) → List A → ℕ
total f [] = 0
total f (y ∷ ys) = f y + total f ys

unfoldable pub balance : {A : Type 0} → (A → ℤ) → List A → ℤ
balance f [] = pos 0
balance f (y ∷ ys) = f y +ℤ balance f ys

unfoldable pub largest : {A : Type 0} → (A → ℕ) → List A → ℕ
largest f [] = 0
largest f (y ∷ ys) = max (f y) (largest f ys)

-- the sum of the corrected voltages' squares
unfoldable pub voltage_squares : Card → List Sample → ℕ
voltage_squares c xs = total (λ (x : Sample). square_of (voltage c x.0)) xs

-- the sums of a source: current squares, products, and the largest size of the current
unfoldable pub flow_of : List Worked → Flow
flow_of ys = record {
  ii = total (λ (y : Worked). square_of y.1) ys;
  vi = balance (λ (y : Worked). y.0 *ℤ y.1) ys;
  peak = largest (λ (y : Worked). unsigned_abs y.1) ys;
}

-- how many of the raw voltages, and of the raw inputs, the card clips (document 02, A2 and A5)
unfoldable pub clips_of : Card → List Sample → Clips
clips_of c xs = record {
  v = total (λ (x : Sample). one_if (voltage_clipped c x.0)) xs;
  s1 = total (λ (x : Sample). one_if (input_clipped c x.1.s1)) xs;
  s3 = total (λ (x : Sample). one_if (input_clipped c x.1.s3)) xs;
}

-- the raw inputs of the last sample
unfoldable pub last_raw : Inputs → List Sample → Inputs
last_raw before [] = before
last_raw before (x ∷ xs) = last_raw x.1 xs

-- the sums of an interval's samples
unfoldable pub sums_of : Card → ℕ → Inputs → List Sample → Sums
sums_of c config before xs = record {
  vv = voltage_squares c xs;
  a = flow_of (worked c (multipliers_of IA config) before xs);
  b = flow_of (worked c (multipliers_of IB config) before xs);
  clips = clips_of c xs;
  seen = true;
  raw = last_raw before xs;
}

-- the interval that closes with these samples
unfoldable pub interval_of : Bool → Settings → Card → Inputs → List Sample → Closed → Closed
interval_of first t c before xs old = closed_of first t c (sums_of c t.config before xs) (length xs) old
