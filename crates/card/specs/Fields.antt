-- The eight fields of a card and their ranges, from document 01, "A probe's card".
use Rattle.std.specs.Prelude.{ℕ, ◌-◌, Bool, ◌&&◌, List, [], ◌∷◌, ℤ, pos, negsuc, nat_abs, get_or}
use Rattle.std.specs.Int.Signed.{le_z}
use Rattle.serial.specs.Every.{every}

-- the least value of each field, in order: VOFFS, IOFFS, VGAIN, IGAIN, PHASE, IRMSOFFS, SQUELCH, POFFS
unfoldable pub lows : List ℤ
lows = negsuc 8388607 ∷ negsuc 8388607 ∷ pos 1 ∷ pos 1 ∷ pos 0 ∷ pos 0 ∷ pos 0 ∷ pos 0 ∷ []

-- and the greatest
unfoldable pub highs : List ℤ
highs = pos 8388607 ∷ pos 8388607 ∷ pos 8388607 ∷ pos 8388607 ∷ pos 4095 ∷ pos 8388607 ∷ pos 8388607 ∷ pos 8388607 ∷ []

-- v is in the range of the field at place k of the eight, from 0
unfoldable pub fits_field : ℕ → ℤ → Bool
fits_field k v = le_z (get_or lows k (pos 0)) v && le_z v (get_or highs k (pos 0))

-- field is one of the numbers 1 to 8
unfoldable pub is_field : ℤ → Bool
is_field field = le_z (pos 1) field && le_z field (pos 8)

-- v is in the range of the field with this number
unfoldable pub field_in_range : ℤ → ℤ → Bool
field_in_range field v = is_field field && fits_field (nat_abs field - 1) v

-- each of eight values is in the range of its field
unfoldable pub values_fit : List ℤ → Bool
values_fit f = every (λ (k : ℕ). fits_field k (get_or f k (pos 0))) 8
