-- Division of whole numbers, with both roundings of document 01.
use Rattle.std.specs.Prelude.{ℕ, ◌/◌, ◌≡◌, ℤ, pos, negsuc, nat_abs, ◌+ℤ◌, ◌*ℤ◌, ◌≤ℤ◌, ◌<ℤ◌}
use Rattle.number.specs.Sign.{with_sign}

-- z / m, rounded down. (`negsuc a` is -(a + 1), and -(a + 1) / m rounded down is -(a / m + 1).)
unfoldable pub floor_div : ℤ → ℕ → ℤ
floor_div (pos a) m = pos (a / m)
floor_div (negsuc a) m = negsuc (a / m)

-- z / m, rounded toward zero: the size is divided, the sign kept; by 0 it gives 0
unfoldable pub toward_zero : ℤ → ℕ → ℤ
toward_zero z m = with_sign z (nat_abs z / m)

-- what it is for q to be z / m rounded down: q·m ≤ z < (q + 1)·m
pub record RoundedDown (z : ℤ) (m : ℕ) (q : ℤ) : Type 0 where
  pub low : (q *ℤ pos m) ≤ℤ z
  pub high : z <ℤ ((q +ℤ pos 1) *ℤ pos m)

-- what it is for q to be z / m rounded toward zero: its size is that of z divided by m rounded down, and it is on no other side of 0 than z
pub record RoundedTowardZero (z : ℤ) (m : ℕ) (q : ℤ) : Type 0 where
  pub size : nat_abs q ≡ nat_abs z / m
  pub not_above : z ≤ℤ pos 0 → q ≤ℤ pos 0
  pub not_below : pos 0 ≤ℤ z → pos 0 ≤ℤ q
