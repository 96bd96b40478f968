-- A minimum is not above what it was nor above the new value, and a maximum not below them.
use mathlib.Core.Path.{◌≡◌, refl}
use mathlib.Core.Bool.{Bool, true, false, cond}
use native.Mathlib.Omega.{arith}
use lib.IntN.{ℤ}
use lib.Signed.{lt_z, ◌≤ℤ◌, ≤ℤ_refl}
use Rattle.number.proofs.Signed.{signs}
use Rattle.tracking.specs.Tracking.{further, lowest, highest}

pub lowest_least : (now old : ℤ) → (lowest false now old ≤ℤ now) × (lowest false now old ≤ℤ old)
unfolding lowest further
lowest_least now old = by (lt_z now old) refl
  where
    by : (b : Bool) → lt_z now old ≡ b → (cond b now old ≤ℤ now) × (cond b now old ≤ℤ old)
    by true e = (≤ℤ_refl now, omega (arith, signs, e))
    by false e = (omega (arith, signs, e), ≤ℤ_refl old)

pub highest_greatest : (now old : ℤ) → (now ≤ℤ highest false now old) × (old ≤ℤ highest false now old)
unfolding highest further
highest_greatest now old = by (lt_z old now) refl
  where
    by : (b : Bool) → lt_z old now ≡ b → (now ≤ℤ cond b now old) × (old ≤ℤ cond b now old)
    by true e = (≤ℤ_refl now, omega (arith, signs, e))
    by false e = (omega (arith, signs, e), ≤ℤ_refl old)
