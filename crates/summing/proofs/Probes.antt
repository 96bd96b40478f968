-- Samples by a probe are samples by the card and the configuration that it was taken out of; and one more turn of the loop.
use Prim.Native.Nat.{ℕ, ◌+◌, ◌≤◌, ◌<◌}
use mathlib.Core.Path.{◌≡◌, refl, ap, ◌∙◌}
use mathlib.Core.List.{List, [], ◌∷◌}
use native.Mathlib.Numerals.{add-one}
use native.Mathlib.Omega.{arith}
use lib.ListN.{length, drop, drop_of_length-le}
use lib.IntN.{ℤ}
use lib.Signed.{mag}
use Rattle.range.proofs.Ranges.{clipped_mag}
use Rattle.card.specs.declared.Card.{Card}
use Rattle.sample.specs.declared.Inputs.{Inputs}
use Rattle.sample.specs.declared.Sums.{Sums}
use Rattle.sample.specs.Sample.{voltage, input, phased, voltage_clipped, input_clipped, source_current}
use Rattle.sample.specs.Sums.{Sample, samples_in, added, added_all}
use Rattle.sample.specs.Inside.{Phased}
use Rattle.sample.proofs.Corrections.{corrected_in}
use Rattle.sample.proofs.Slices.{sample_at, samples_long, samples_at}
use Rattle.summing.specs.declared.Probe.{Probe}
use Rattle.summing.specs.Inside.{probe_of, both_of, mixed_both, probed, probed_all, clipped_each, three_of, Within}

-- a turn of the loop
module _ (p : Probe) (s : Sums) (v s1 s3 : List ℤ) (k : ℕ) (e : length v ≡ length s1) (f : length v ≡ length s3) where
  pub probe_more : k < length v → probed_all p s (drop k (samples_in v s1 s3)) ≡ probed_all p (probed p s (sample_at v s1 s3 k)) (drop (k + 1) (samples_in v s1 s3))
  unfolding probed_all
  probe_more h = rw (samples_at v s1 s3 k h e f, add-one)

  pub probe_end : length v ≤ k → probed_all p s (drop k (samples_in v s1 s3)) ≡ s
  unfolding probed_all
  probe_end h = rw (drop_of_length-le (samples_in v s1 s3) {i = k} (omega (arith, samples_long v s1 s3 e f)))

-- what the card and the configuration do, taken out once
module _ (c : Card) (g : ℕ) where
  probe_one : (s : Sums) (x : Sample) → probed (probe_of c g) s x ≡ added c g s x
  unfolding probed probe_of both_of mixed_both added voltage input phased voltage_clipped input_clipped source_current
  probe_one s x = refl

  pub probe_is : (s : Sums) (xs : List Sample) → probed_all (probe_of c g) s xs ≡ added_all c g s xs
  unfolding probed_all added_all
  probe_is s [] = refl
  probe_is s (x ∷ xs) = ap (λ (t : Sums). probed_all (probe_of c g) t xs) (probe_one s x) ∙ probe_is (added c g s x) xs

  pub phase_most : Phased c → (probe_of c g).phase ≤ 4095
  unfolding probe_of
  phase_most h = h.high

-- corrected values are in the 24-bit range
pub both_in : (p : Probe) (raw : Inputs) → (mag (both_of p raw).s1 < 8388608) × (mag (both_of p raw).s3 < 8388608)
unfolding both_of
both_in p raw = (corrected_in raw.s1 p.ioffs p.igain, corrected_in raw.s3 p.ioffs p.igain)

pub three_within : (n : ℕ) (p : Probe) (x : Sample) → Within (three_of n p x)
unfolding three_of clipped_each
three_within n p x = record { v = clipped_mag _; s1 = clipped_mag _; s3 = clipped_mag _ }
