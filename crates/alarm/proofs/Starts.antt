-- What the test of a start's numbers says.
use Prim.Native.Nat.{ℕ, ◌≤◌}
use mathlib.Core.Path.{◌≡◌, sym}
use mathlib.Core.Bool.{true, true≢false}
use lib.Dec.{T}
use lib.IntN.{ℤ, pos, negsuc, nat_abs}
use lib.Signed.{le_z, non_neg}
use borrow.Author.Tests.{leb-true}
use Rattle.sample.proofs.Tests.{both_of}
use Rattle.alarm.specs.Starting.{numbers_ok}

-- a number from one end to the other, neither below 0
abbrev Between : ℕ → ℕ → ℤ → Type 0
Between lo hi z = T (non_neg z) × (lo ≤ nat_abs z) × (nat_abs z ≤ hi)

pub record InLimits (x y z : ℤ) : Type 0 where
  pub w : Between 1 512 x
  pub vsag : Between 0 8388607 y
  pub vsurge : Between 0 8388607 z

between : (lo hi : ℕ) (z : ℤ) → le_z (pos lo) z ≡ true → le_z z (pos hi) ≡ true → Between lo hi z
between lo hi (pos n) d e = (tt, leb-true lo n d, leb-true n hi e)
between lo hi (negsuc n) d e = absurd (true≢false (sym d))

pub numbers_in : (w vsag vsurge : ℤ) → numbers_ok w vsag vsurge ≡ true → InLimits w vsag vsurge
unfolding numbers_ok
numbers_in w vsag vsurge e =
    let c5 : _ = both_of _ _ e in
    let c4 : _ = both_of _ _ c5.0 in
    let c3 : _ = both_of _ _ c4.0 in
    let c2 : _ = both_of _ _ c3.0 in
    let c1 : _ = both_of _ _ c2.0 in
    record {
      w = between 1 512 w c1.0 c1.1;
      vsag = between 0 8388607 vsag c2.1 c3.1;
      vsurge = between 0 8388607 vsurge c4.1 c5.1;
    }
