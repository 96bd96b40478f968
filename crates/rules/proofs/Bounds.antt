-- Bounds on the registers: each fits its 24 bits, and no step on the way overflows.
use Prim.Native.Nat.{ℕ, ◌+◌, ◌*◌, ◌-◌, ◌/◌, ◌≤◌, min}
use mathlib.Core.Path.{◌≡◌}
use mathlib.Core.Bool.{Bool, true, false, cond}
use native.Mathlib.Nat.{div-zero, mul-le-mul, le_refl}
use native.Mathlib.Omega.{arith}
use lib.Dec.{eqb}
use lib.IntN.{ℤ, pos, negsuc, ◌*ℤ◌}
use mir.Syntax.{w32, w64}
use mir.Val.{SFits, to_z}
use mir.Facts.{to_z_pos}
use Rattle.range.specs.Range.{held_within, clipped}
use Rattle.number.specs.Sign.{lessened}
use Rattle.root.specs.Root.{Root, root_of}
use Rattle.number.proofs.Signed.{up, dn, norm, lt_z_false}
use Rattle.number.proofs.Fits.{within, size_of, size_nat, size_mul, size_fits}
use Rattle.range.proofs.Ranges.{held_is, clipped_is}
use Rattle.number.proofs.Signs.{lessened_is}
use Rattle.root.proofs.Roots.{root_of_lem}
use Rattle.rules.specs.Rules.{rms, apparent_of, crest_of}

-- ---- the root of the mean square
root_none : (m : ℕ) → m ≡ 0 → min (root_of m) 8388607 ≡ 0
root_none m e =
    let h : Root m 0 = record { low = omega arith; high = omega arith } in
    omega (arith, root_of_lem.only m 0 h)

pub rms_none : (sum n less : ℕ) → sum / n ≤ less → rms sum n less ≡ 0
unfolding rms
rms_none sum n less h = root_none (sum / n - less) (omega arith)

pub rms_of_none : (sum less : ℕ) → rms sum 0 less ≡ 0
unfolding rms
rms_of_none sum less = root_none (sum / 0 - less) (omega (arith, div-zero sum))

-- ---- at most 8,388,607
pub rms_most : (sum n less : ℕ) → rms sum n less ≤ 8388607
unfolding rms
rms_most sum n less = omega arith

pub apparent_most : (v i : ℕ) → v ≤ 8388607 → i ≤ 8388607 → apparent_of v i ≤ 8388607
unfolding apparent_of
apparent_most v i h k = omega (arith, mul-le-mul h k)

pub crest_most : (p i : ℕ) → crest_of p i ≤ 8388607
unfolding crest_of
crest_most p i = by (eqb i 0)
  where
    by : (t : Bool) → cond t 0 (min (p * 65536 / i) 8388607) ≤ 8388607
    by true = omega arith
    by false = omega arith

-- what is held within two ends is within them
pub held_in : (a b : ℕ) (z : ℤ) → (up (held_within (negsuc a) (pos b) z) ≤ b) × (dn (held_within (negsuc a) (pos b) z) ≤ a + 1)
held_in a b z =
    held_is (negsuc a) (pos b) z (λ r. (up r ≤ b) × (dn r ≤ a + 1))
    (λ e. omega arith)
    (λ e k. omega arith)
    (λ e k. omega (arith, norm z, lt_z_false z (negsuc a) e, lt_z_false (pos b) z k))

-- a clipped number stays in the range when its size is lessened
pub lessened_fits : (z : ℤ) (m : ℕ) → SFits w32 (lessened (clipped z) m)
lessened_fits z m = within (omega (arith, lessened_is (clipped z) m, clipped_is z))

-- ---- products that fit
pub scaled_fits : {p : ℤ} → SFits w32 p → SFits w64 (p *ℤ pos 4194304)
scaled_fits h = size_fits (size_mul (size_of h) (size_nat (le_refl 4194304))) tt

-- ---- a number of a register, read back from its bits
pub small_fits : {n : ℕ} → n ≤ 8388607 → SFits w32 (pos n)
small_fits h = within (omega arith)

pub read_small : (n : ℕ) → n ≤ 8388607 → to_z w32 n ≡ pos n
read_small n h = to_z_pos w32 (omega arith)
