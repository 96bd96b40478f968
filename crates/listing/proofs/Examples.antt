-- Document 01's example: the 41 bytes, and the whole output.
use mathlib.Core.Path.{◌≡◌, refl}
use mathlib.Core.List.{List, [], ◌∷◌, ◌++◌}
use Prim.Native.Nat.{ℕ}
use lib.ListN.{replicate}
use Rattle.serial.specs.Every.{every}
use Rattle.serial.specs.Places.{part, tab}
use Rattle.serial.specs.Serials.{place_ok, holds_serial, text_of}
use Rattle.card.specs.Fields.{lows, highs, fits_field}
use Rattle.card.specs.Cards.{three_at, signed24, value_of, field_at, fields_at, fields_ok}
use Rattle.section.specs.Sections.{lies, entry_at, serial_at, entry_ok, entries_ok, same, fresh, distinct, section_ok}
use Rattle.book.specs.Book.{count_at, sized, well_formed}
use Rattle.decimal.specs.Decimals.{digits, decimal, signed_decimal}
use Rattle.listing.specs.Lines.{cards_word, withdrawn_word, first_line, fields_text, card_text, card_line, lines, entries_text, listing}

-- 01 00, 04 30 34 31 37, eight 00, six 00, 00 00 20 00 00 20, twelve 00, 00 00
example : List ℕ
example = 1 ∷ 0 ∷ 4 ∷ 48 ∷ 52 ∷ 49 ∷ 55 ∷ replicate 8 0 ++ replicate 6 0 ++ (0 ∷ 0 ∷ 32 ∷ 0 ∷ 0 ∷ 32 ∷ []) ++ replicate 12 0 ++ (0 ∷ 0 ∷ [])

-- CARDS 1 WITHDRAWN 0, and 0417 0 0 2097152 2097152 0 0 0 0
output : List ℕ
output =
    67 ∷ 65 ∷ 82 ∷ 68 ∷ 83 ∷ 32 ∷ 49 ∷ 32 ∷ 87 ∷ 73 ∷ 84 ∷ 72 ∷ 68 ∷ 82 ∷ 65 ∷ 87 ∷ 78 ∷ 32 ∷ 48 ∷ 10
    ∷ 48 ∷ 52 ∷ 49 ∷ 55 ∷ 32 ∷ 48 ∷ 32 ∷ 48 ∷ 32 ∷ 50 ∷ 48 ∷ 57 ∷ 55 ∷ 49 ∷ 53 ∷ 50 ∷ 32 ∷ 50 ∷ 48 ∷ 57 ∷ 55 ∷ 49 ∷ 53 ∷ 50 ∷ 32 ∷ 48 ∷ 32 ∷ 48 ∷ 32 ∷ 48 ∷ 32 ∷ 48 ∷ 10 ∷ []

listed : listing example ≡ output
unfolding listing entries_text well_formed sized count_at section_ok lies entries_ok entry_ok entry_at distinct fresh same serial_at every part holds_serial place_ok fields_ok fields_at field_at value_of signed24 three_at fits_field lows highs tab example output first_line cards_word withdrawn_word digits decimal signed_decimal lines card_line card_text fields_text text_of
listed = refl
