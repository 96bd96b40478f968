-- A turn of the loop: what stands after k samples, and what a sample more does.
use Prim.Native.Nat.{ℕ, suc, ◌-◌, ◌<◌}
use mathlib.Core.Path.{◌≡◌, refl}
use mathlib.Core.Bool.{true}
use mathlib.Core.List.{List}
use lib.IntN.{ℤ, pos}
use lib.ListN.{get_or, length, drop}
use lib.Signed.{mag}
use mir.Syntax.{w64}
use mir.Val.{SFits}
use Rattle.number.proofs.Fits.{widen}
use Rattle.range.proofs.Ranges.{in_fits, in_mag}
use Rattle.source.proofs.Blends.{blended_in}
use Rattle.sample.specs.declared.Inputs.{Inputs}
use Rattle.sample.specs.declared.Sums.{Sums}
use Rattle.sample.specs.Sample.{corrected, was_clipped}
use Rattle.sample.specs.Sums.{Sample, samples_in, previous, summed}
use Rattle.sample.specs.Inside.{Spare}
use Rattle.sample.proofs.Corrections.{corrected_in}
use Rattle.sample.proofs.Rooms.{spare_more}
use Rattle.sample.proofs.Slices.{previous_after}
use Rattle.summing.specs.declared.Probe.{Probe}
use Rattle.summing.specs.declared.Three.{Three}
use Rattle.summing.specs.declared.Tally.{Tally}
use Rattle.summing.specs.Inside.{both_of, probed_all, probed, tally_of, clipped_each, three_of, taken_into}
use Rattle.summing.proofs.Tallies.{tally_more}

-- the raw inputs of sample k
abbrev pub inputs : List ℤ → List ℤ → ℕ → Inputs
inputs s1 s3 k = record { s1 = get_or s1 k (pos 0); s3 = get_or s3 k (pos 0) }

-- the sums that the tally t is of, after k samples
pub record Of (p : Probe) (v s1 s3 : List ℤ) (s₀ : Sums) (old1 old3 : ℤ) (t : Tally) (k : ℕ) : Type 0 where
  pub sums : Sums
  pub spare : Spare sums (length v - k)
  pub goes_on : probed_all p sums (drop k (samples_in v s1 s3)) ≡ probed_all p s₀ (samples_in v s1 s3)
  pub before1 : old1 ≡ (both_of p (previous sums (inputs s1 s3 k))).s1
  pub before3 : old3 ≡ (both_of p (previous sums (inputs s1 s3 k))).s3
  pub tally : t ≡ tally_of sums
  pub last : 0 < k → (sums.seen ≡ true) × (sums.raw ≡ inputs s1 s3 (k - 1))

-- one sample more has room, and its tally is that of the sums with it
pub spare_next : (p : Probe) (s : Sums) (x : Sample) (k : ℕ) → Spare s (suc k) → Spare (probed p s x) k
unfolding probed
spare_next p s x k h = spare_more s _ _ _ _ _ _ x.1 (corrected_in _ _ _) (blended_in _ _ _) (blended_in _ _ _) k h

-- a value of the range has 64 bits
pub wide : {z : ℤ} → mag z < 8388608 → SFits w64 z
wide {z} h = widen (in_fits (in_mag z h))

pub three_same : (p : Probe) {n n' : ℕ} {v v' a a' b b' : ℤ} → n ≡ n' → v ≡ v' → a ≡ a' → b ≡ b' →
    three_of n p (v, record { s1 = a; s3 = b }) ≡ three_of n' p (v', record { s1 = a'; s3 = b' })
three_same p e f g h = rw (e, f, g, h)

pub three_inputs : (n : ℕ) (p : Probe) (x : Sample) → ((three_of n p x).s1 ≡ (both_of p x.1).s1) × ((three_of n p x).s3 ≡ (both_of p x.1).s3)
unfolding three_of clipped_each both_of corrected
three_inputs n p x = (refl, refl)

pub take_same : (p : Probe) {t t' : Tally} {x x' : Three} {a a' b b' : ℤ} → t ≡ t' → x ≡ x' → a ≡ a' → b ≡ b' →
    taken_into t p x (record { s1 = a; s3 = b }) ≡ taken_into t' p x' (record { s1 = a'; s3 = b' })
take_same p e f g h = rw (e, f, g, h)

pub take_next : (p : Probe) (s : Sums) (x : Sample) → taken_into (tally_of s) p (three_of (tally_of s).clips p x) (both_of p (previous s x.1)) ≡ tally_of (probed p s x)
unfolding probed taken_into three_of clipped_each both_of corrected was_clipped
take_next p s x = tally_more s _ _ _ _ _ _ x.1

pub previous_next : (p : Probe) (s : Sums) (x : Sample) (raw : Inputs) → previous (probed p s x) raw ≡ x.1
unfolding probed
previous_next p s x raw = previous_after s _ _ _ _ _ _ x.1 raw

pub seen_next : (p : Probe) (s : Sums) (x : Sample) → ((probed p s x).seen ≡ true) × ((probed p s x).raw ≡ x.1)
unfolding probed summed
seen_next p s x = (refl, refl)
