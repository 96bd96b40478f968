-- The 24-bit range, -8,388,608 to 8,388,607, and what it is to clip.
use Rattle.std.specs.Prelude.{ℕ, min, Bool, not, cond, ◌&&◌, ℤ, pos, negsuc, ◌≤ℤ◌}
use Rattle.std.specs.Int.Signed.{lt_z, le_z}

-- -8,388,608: `negsuc n` is -(n + 1)
abbrev pub low : ℤ
low = negsuc 8388607

abbrev pub high : ℤ
high = pos 8388607

abbrev pub most : ℕ
most = 8388607

-- whether a number is in the range
unfoldable pub in24 : ℤ → Bool
in24 z = le_z low z && le_z z high

-- whether it is outside
unfoldable pub outside24 : ℤ → Bool
outside24 z = not (in24 z)

-- a number held within two ends: an end takes the place of a number beyond it
unfoldable pub held_within : ℤ → ℤ → ℤ → ℤ
held_within lo hi z = cond (lt_z z lo) lo (cond (lt_z hi z) hi z)

-- to clip is to replace by the nearer end of the 24-bit range
unfoldable pub clipped : ℤ → ℤ
clipped z = held_within low high z

-- at most 8,388,607
abbrev pub capped : ℕ → ℕ
capped n = min n most

-- z is in the range
pub record InRange (z : ℤ) : Type 0 where
  pub above : low ≤ℤ z
  pub below : z ≤ℤ high
