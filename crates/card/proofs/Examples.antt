-- Worked examples of the document: the 37 bytes of the card in its listing, and ends of ranges.
use Prim.Native.Nat.{ℕ}
use mathlib.Core.Path.{◌≡◌, refl}
use mathlib.Core.Bool.{true, false}
use mathlib.Core.List.{List, [], ◌∷◌, ◌++◌}
use lib.IntN.{ℤ, pos, negsuc}
use lib.ListN.{replicate}
use Rattle.serial.specs.Every.{every}
use Rattle.serial.specs.Places.{tab}
use Rattle.serial.specs.Serials.{digits_ok, is_serial, padded, serial_of, serial_bytes, place_ok, holds_serial}
use Rattle.card.specs.Fields.{lows, highs, fits_field, is_field, field_in_range}
use Rattle.card.specs.Cards.{bits24, three_bytes, fields_bytes, card_bytes, three_at, signed24, value_of, field_at, digits_at, fields_at, card_of, fields_ok, is_card}

-- 0417
label : List ℕ
label = 48 ∷ 52 ∷ 49 ∷ 55 ∷ []

-- the card of the listing: both gains one, and the other fields 0
gains : List ℤ
gains = pos 0 ∷ pos 0 ∷ pos 2097152 ∷ pos 2097152 ∷ pos 0 ∷ pos 0 ∷ pos 0 ∷ pos 0 ∷ []

card : List ℕ
card = 4 ∷ 48 ∷ 52 ∷ 49 ∷ 55 ∷ replicate 8 0 ++ replicate 6 0 ++ (0 ∷ 0 ∷ 32 ∷ 0 ∷ 0 ∷ 32 ∷ []) ++ replicate 12 0

card_written : card_bytes (serial_of label) gains ≡ card
unfolding label gains card serial_bytes serial_of is_serial digits_ok every padded card_bytes fields_bytes three_bytes bits24
card_written = refl

card_read : card_of card ≡ record { serial = serial_of label; fields = gains }
unfolding label gains card serial_of is_serial digits_ok every padded digits_at fields_at tab field_at value_of signed24 three_at
card_read = refl

card_taken : is_card card ≡ true
unfolding card every holds_serial place_ok fields_ok fits_field lows highs field_at value_of signed24 three_at
card_taken = refl

-- two's complement: FF FF FF is -1 in field 1, and too large in field 3
minus_one : value_of 0 16777215 ≡ negsuc 0
unfolding value_of signed24
minus_one = refl

too_large : fits_field 2 (value_of 2 16777215) ≡ false
unfolding value_of signed24 fits_field lows highs
too_large = refl

-- field 3 has no zero, field 5 ends at 4,095, and there is no field 9
no_gain : field_in_range (pos 3) (pos 0) ≡ false
unfolding field_in_range is_field fits_field lows highs
no_gain = refl

phase_end : field_in_range (pos 5) (pos 4095) ≡ true
unfolding field_in_range is_field fits_field lows highs
phase_end = refl

field_nine : field_in_range (pos 9) (pos 0) ≡ false
unfolding field_in_range is_field fits_field lows highs
field_nine = refl
