-- A sample was clipped just if its product lies beyond the range times 2^21.
use Prim.Native.Nat.{◌/◌}
use mathlib.Core.Path.{◌≡◌}
use mathlib.Core.Bool.{true, false}
use mathlib.Core.Logic.{◌⊎◌, inl, inr}
use native.Mathlib.Omega.{arith}
use lib.IntN.{ℤ, pos, negsuc, ◌-ℤ◌, ◌*ℤ◌}
use lib.Signed.{◌≤ℤ◌, ◌<ℤ◌}
use Rattle.number.specs.Rounding.{floor_div}
use Rattle.number.proofs.Signed.{le_in, lt_in, le_out, lt_out}
use Rattle.range.specs.Range.{low, high, InRange}
use Rattle.range.proofs.Ranges.{Outside, outside_yes, outside_no}
use Rattle.sample.specs.Sample.{scaled, was_clipped, Beyond}

abbrev Far : ℤ → Type 0
Far z = (z <ℤ negsuc 17592186044415) ⊎ (pos 17592186044416 ≤ℤ z)

-- a quotient beyond an end, and one in the range
far : (z : ℤ) → Outside (floor_div z 2097152) → Far z
unfolding floor_div
far (pos a) (inl h) = absurd (omega (arith, lt_out (pos (a / 2097152)) low h))
far (pos a) (inr h) = inr (le_in (pos 17592186044416) (pos a) (omega (arith, lt_out high (pos (a / 2097152)) h)))
far (negsuc a) (inl h) = inl (lt_in (negsuc a) (negsuc 17592186044415) (omega (arith, lt_out (negsuc (a / 2097152)) low h)))
far (negsuc a) (inr h) = absurd (omega (arith, lt_out high (negsuc (a / 2097152)) h))

near : (z : ℤ) → InRange (floor_div z 2097152) → Far z → ⊥
unfolding floor_div
near (pos a) r (inl h) = omega (arith, lt_out (pos a) (negsuc 17592186044415) h)
near (pos a) r (inr h) = omega (arith, le_out (pos (a / 2097152)) high r.below, le_out (pos 17592186044416) (pos a) h)
near (negsuc a) r (inl h) = omega (arith, le_out low (negsuc (a / 2097152)) r.above, lt_out (negsuc a) (negsuc 17592186044415) h)
near (negsuc a) r (inr h) = omega (arith, le_out (pos 17592186044416) (negsuc a) h)

pub clipped_beyond : (raw offset gain : ℤ) → was_clipped raw offset gain ≡ true → Beyond raw offset gain
unfolding was_clipped scaled
clipped_beyond raw offset gain e = far ((raw -ℤ offset) *ℤ gain) (outside_yes (floor_div ((raw -ℤ offset) *ℤ gain) 2097152) e)

pub unclipped_within : (raw offset gain : ℤ) → was_clipped raw offset gain ≡ false → Beyond raw offset gain → ⊥
unfolding was_clipped scaled
unclipped_within raw offset gain e = near ((raw -ℤ offset) *ℤ gain) (outside_no (floor_div ((raw -ℤ offset) *ℤ gain) 2097152) e)
