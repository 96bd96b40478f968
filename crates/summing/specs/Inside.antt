-- What this crate's own functions do: the card's values and the multipliers are taken out once, and the loop keeps a tally of the sums. No public
-- contract rests on it.
use Rattle.std.specs.Prelude.{ℕ, ◌+◌, ◌*◌, ◌/◌, ◌%◌, ◌^◌, ◌<◌, ◌≤◌, Bool, true, List, [], ◌∷◌, ℤ}
use Rattle.std.specs.Int.Signed.{mag}
use Rattle.number.specs.Sign.{square_of}
use Rattle.card.specs.declared.Card.{Card}
use Rattle.source.specs.Sources.{IA, IB, multipliers_of, blended}
use Rattle.sample.specs.declared.Inputs.{Inputs}
use Rattle.sample.specs.declared.Clips.{Clips}
use Rattle.sample.specs.declared.Sums.{Sums}
use Rattle.sample.specs.Fields.{voffs, ioffs, vgain, igain, phase}
use Rattle.range.specs.Range.{outside24, clipped}
use Rattle.sample.specs.Sample.{scaled, corrected, was_clipped, mixed}
use Rattle.sample.specs.Sums.{Sample, joined, one_if, summed, previous}
use Rattle.sample.specs.Inside.{Flowing}
use Rattle.summing.specs.declared.Probe.{Probe}
use Rattle.summing.specs.declared.Three.{Three}
use Rattle.summing.specs.declared.Tally.{Tally}

-- what a sample needs of its card and of the configuration
unfoldable pub probe_of : Card → ℕ → Probe
probe_of c config = record {
  voffs = voffs c;
  ioffs = ioffs c;
  vgain = vgain c;
  igain = igain c;
  phase = phase c;
  a = multipliers_of IA config;
  b = multipliers_of IB config;
}

-- both inputs corrected, and then mixed with the previous ones
unfoldable pub both_of : Probe → Inputs → Inputs
both_of p raw = record { s1 = corrected raw.s1 p.ioffs p.igain; s3 = corrected raw.s3 p.ioffs p.igain }

unfoldable pub mixed_both : Probe → Inputs → Inputs → Inputs
mixed_both p now old = record { s1 = mixed p.phase now.s1 old.s1; s3 = mixed p.phase now.s3 old.s3 }

-- one sample more, and samples one after another: `added` and `added_all` of the card and the configuration that the probe was taken out of
unfoldable pub probed : Probe → Sums → Sample → Sums
probed p s x =
    let raw = x.1 in
    let y = mixed_both p (both_of p raw) (both_of p (previous s raw)) in
    summed s (corrected x.0 p.voffs p.vgain) (blended p.a y.s1 y.s3) (blended p.b y.s1 y.s3)
    (was_clipped x.0 p.voffs p.vgain) (was_clipped raw.s1 p.ioffs p.igain) (was_clipped raw.s3 p.ioffs p.igain) raw

unfoldable pub probed_all : Probe → Sums → List Sample → Sums
probed_all p s [] = s
probed_all p s (x ∷ xs) = probed_all p (probed p s x) xs

-- ---- the tally

-- the three counts in one number, and back: each is at most 4,096
unfoldable pub packed : Clips → ℕ
packed k = k.v + k.s1 * 65536 + k.s3 * 4294967296

unfoldable pub unpacked : ℕ → Clips
unpacked n = record { v = n % 65536; s1 = n / 65536 % 65536; s3 = n / 4294967296 }

-- what the loop keeps of the sums; and the sums again, with the raw inputs of the last sample
unfoldable pub tally_of : Sums → Tally
tally_of s = record { vv = s.vv; a = s.a; b = s.b; clips = packed s.clips }

unfoldable pub tallied : Tally → Inputs → Sums
tallied t raw = record { vv = t.vv; a = t.a; b = t.b; clips = unpacked t.clips; seen = true; raw = raw }

-- one sample more
unfoldable pub one_more : ℕ → Bool → Bool → Bool → ℕ
one_more n v s1 s3 = n + one_if v + one_if s1 * 65536 + one_if s3 * 4294967296

-- the values of a sample clipped, and counted where that changes them: n was counted before
unfoldable pub clipped_each : ℕ → ℤ → ℤ → ℤ → Three
clipped_each n v s1 s3 = record { v = clipped v; s1 = clipped s1; s3 = clipped s3; clips = one_more n (outside24 v) (outside24 s1) (outside24 s3) }

unfoldable pub three_of : ℕ → Probe → Sample → Three
three_of n p x =
    let raw = x.1 in
    clipped_each n (scaled x.0 p.voffs p.vgain) (scaled raw.s1 p.ioffs p.igain) (scaled raw.s3 p.ioffs p.igain)

unfoldable pub joined_to : Tally → ℤ → ℤ → ℤ → ℕ → Tally
joined_to t v ia ib clips = record {
  vv = t.vv + square_of v;
  a = joined t.a v ia;
  b = joined t.b v ib;
  clips = clips;
}

unfoldable pub taken_into : Tally → Probe → Three → Inputs → Tally
taken_into t p x old =
    let y = mixed_both p (record { s1 = x.s1; s3 = x.s3 }) old in
    joined_to t x.v (blended p.a y.s1 y.s3) (blended p.b y.s1 y.s3) x.clips

-- a tally of at most 4,096 samples: one more cannot pass its bits
pub record Small (t : Tally) : Type 0 where
  pub vv : t.vv ≤ 4096 * 2 ^ 46
  pub a : Flowing t.a 4096
  pub b : Flowing t.b 4096
  pub clips : t.clips ≤ 4096 * (1 + 65536 + 4294967296)

-- all values of a sample in the 24-bit range
pub record Within (x : Three) : Type 0 where
  pub v : mag x.v < 8388608
  pub s1 : mag x.s1 < 8388608
  pub s3 : mag x.s3 < 8388608
