-- Sign and size of a whole number. The size of z is the library's `nat_abs z`.
use Rattle.std.specs.Prelude.{ℕ, ◌-◌, ◌*◌, ℤ, pos, negsuc, neg_ℤ, nat_abs}

-- the number of size m with the sign of z
unfoldable pub with_sign : ℤ → ℕ → ℤ
with_sign (pos a) m = pos m
with_sign (negsuc a) m = neg_ℤ (pos m)

-- the size of z less m, or 0 if that is not positive, with its sign kept (`nat_abs z - m` is 0 where m is the larger)
unfoldable pub lessened : ℤ → ℕ → ℤ
lessened z m = with_sign z (nat_abs z - m)

-- z squared
abbrev pub square_of : ℤ → ℕ
square_of z = nat_abs z * nat_abs z
