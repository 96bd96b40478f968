-- IA and IB: what each is made of, of the inputs S1 and S3, by the board's configuration.
use Rattle.std.specs.Prelude.{ℕ, ◌/◌, ◌%◌, Bool, not, cond, ◌&&◌, eqb, ℤ, pos, nat_abs, ◌+ℤ◌, ◌-ℤ◌, ◌*ℤ◌}
use Rattle.number.specs.Rounding.{floor_div}
use Rattle.range.specs.Range.{clipped}
use Rattle.source.specs.declared.Multipliers.{Multipliers}

-- the two sources
pub data Current : Type 0 where
  IA IB : Current

-- a code of two bits: 00 is -1, 01 is 0, 10 is 1, 11 is 2
unfoldable pub multiplier : ℕ → ℤ
multiplier code = pos code -ℤ pos 1

-- four bits: M1 in bits 1:0, M3 in bits 3:2; those above have no part in it
unfoldable pub multipliers_in : ℕ → Multipliers
multipliers_in bits = record { m1 = multiplier (bits % 4); m3 = multiplier (bits / 4 % 4) }

-- a source's multipliers: IA has bits 1:0 and 3:2 of the configuration, IB bits 5:4 and 7:6
unfoldable pub multipliers_of : Current → ℕ → Multipliers
multipliers_of IA config = multipliers_in config
multipliers_of IB config = multipliers_in (config / 16)

abbrev pub is_zero : ℤ → Bool
is_zero z = eqb (nat_abs z) 0

-- M1 times S1 + M3 times S3
unfoldable pub weighed : Multipliers → ℤ → ℤ → ℤ
weighed m s1 s3 = m.m1 *ℤ s1 +ℤ m.m3 *ℤ s3

-- neither multiplier is 0
unfoldable pub uses_both : Multipliers → Bool
uses_both m = not (is_zero m.m1) && not (is_zero m.m3)

-- the source's current: where neither multiplier is 0 the sum is halved, rounding down; then it is clipped
unfoldable pub blended : Multipliers → ℤ → ℤ → ℤ
blended m s1 s3 = clipped (cond (uses_both m) (floor_div (weighed m s1 s3) 2) (weighed m s1 s3))
