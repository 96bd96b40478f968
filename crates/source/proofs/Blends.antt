-- No step of a source's sum is beyond an i64, and the machine's test of a multiplier says whether it is 0.
use Prim.Native.Nat.{ℕ, suc, ◌<◌}
use mathlib.Core.Path.{◌≡◌, refl, sym, ◌∙◌}
use native.Mathlib.Omega.{arith}
use borrow.Author.Tests.{ne_eqb}
use lib.Dec.{eqb}
use lib.IntN.{ℤ, pos, negsuc, ◌+ℤ◌, ◌-ℤ◌, ◌*ℤ◌}
use lib.Signed.{mag}
use mir.Syntax.{w8, w32, w64}
use mir.Val.{SFits, of_z, to_z}
use mir.Facts.{to_z_pos, to_z-of_z}
use Rattle.number.proofs.Signed.{diff_is}
use Rattle.number.proofs.Fits.{range, within, size_of, size_add, size_mul, size_fits, widen}
use Rattle.range.proofs.Ranges.{clipped_mag}
use Rattle.source.specs.Sources.{is_zero, blended}
use Rattle.source.specs.declared.Multipliers.{Multipliers}

pub zero_test : (z : ℤ) → SFits w8 z → eqb (of_z w8 z) 0 ≡ is_zero z
zero_test (pos n) h = refl
zero_test (negsuc n) h = ne_eqb (of_z w8 (negsuc n)) 0 (λ e. omega (arith, h.sfits, e)) ∙ sym (ne_eqb (suc n) 0 (λ e. omega (arith, e)))

-- a code, read as signed; and a code less one
pub code_reads : (n : ℕ) → n < 128 → to_z w8 n ≡ pos n
code_reads n h = to_z_pos w8 (omega arith)

pub code_fits : (n : ℕ) → n < 128 → SFits w8 (pos n -ℤ pos 1)
code_fits n h = within (omega (arith, diff_is (pos n) (pos 1)))

-- ---- the sum
pub wide : {m : ℤ} → SFits w8 m → SFits w64 m
wide h = within (omega (arith, range h))

pub part_fits : {m s : ℤ} → SFits w8 m → SFits w32 s → SFits w64 (m *ℤ s)
part_fits h k = size_fits (size_mul (size_of h) (size_of k)) tt

pub sum_fits : {m n s t : ℤ} → SFits w8 m → SFits w8 n → SFits w32 s → SFits w32 t → SFits w64 (m *ℤ s +ℤ n *ℤ t)
sum_fits h k l o = size_fits (size_add (size_mul (size_of h) (size_of l)) (size_mul (size_of k) (size_of o))) tt

-- a product as the machine makes it of narrower numbers
pub part_reads : {m s : ℤ} → SFits w8 m → SFits w32 s →
    to_z w64 (of_z w64 (to_z w64 (of_z w64 (to_z w8 (of_z w8 m))) *ℤ to_z w64 (of_z w64 (to_z w32 (of_z w32 s))))) ≡ m *ℤ s
part_reads h k = rw (to_z-of_z h, to_z-of_z (wide h), to_z-of_z k, to_z-of_z (widen k), to_z-of_z (part_fits h k))

-- ---- a source's current is in the 24-bit range
pub blended_in : (m : Multipliers) (s1 s3 : ℤ) → mag (blended m s1 s3) < 8388608
unfolding blended
blended_in m s1 s3 = clipped_mag _
