-- A card's 37 bytes, from document 01, "A probe's card": the serial's 13, then the eight fields in order, three bytes each, low byte first,
-- two's complement for fields 1 and 2.
use Rattle.std.specs.Prelude.{ℕ, ◌+◌, ◌-◌, ◌*◌, ◌/◌, ◌%◌, Bool, cond, ◌&&◌, List, [], ◌∷◌, ◌++◌, ℤ, pos, negsuc, length, get_or, ltb, eqb}
use Rattle.serial.specs.Every.{every}
use Rattle.serial.specs.Places.{tab}
use Rattle.serial.specs.Serials.{serial_bytes, holds_serial}
use Rattle.card.specs.Fields.{fits_field}
use Rattle.serial.specs.declared.Serial.{Serial}
use Rattle.card.specs.declared.Card.{Card}

-- ---- from values to bytes
-- the last 24 bits of a whole number, two's complement below zero
unfoldable pub bits24 : ℤ → ℕ
bits24 (pos n) = n % 16777216
bits24 (negsuc n) = 16777215 - n % 16777216

-- a number as three bytes, low byte first
unfoldable pub three_bytes : ℕ → List ℕ
three_bytes n = n % 256 ∷ n / 256 % 256 ∷ n / 65536 % 256 ∷ []

-- the bytes of some fields, in order
unfoldable pub fields_bytes : List ℤ → List ℕ
fields_bytes [] = []
fields_bytes (v ∷ vs) = three_bytes (bits24 v) ++ fields_bytes vs

-- the bytes of the card with the serial s and the values f
unfoldable pub card_bytes : Serial → List ℤ → List ℕ
card_bytes s f = serial_bytes s ++ fields_bytes f

-- ---- from bytes to values; a byte past the end counts as zero
-- the number in three bytes at a place
unfoldable pub three_at : List ℕ → ℕ → ℕ
three_at c at = get_or c at 0 + 256 * get_or c (at + 1) 0 + 65536 * get_or c (at + 2) 0

-- 24 bits read as two's complement
unfoldable pub signed24 : ℕ → ℤ
signed24 n = cond (ltb n 8388608) (pos n) (negsuc (16777215 - n))

-- what 24 bits say in the field at place k of the eight, from 0
unfoldable pub value_of : ℕ → ℕ → ℤ
value_of k n = cond (ltb k 2) (signed24 n) (pos n)

-- the value of the field at place k of the eight, from 0
unfoldable pub field_at : List ℕ → ℕ → ℤ
field_at c k = value_of k (three_at c (13 + 3 * k))

-- the twelve places of the serial
unfoldable pub digits_at : List ℕ → List ℕ
digits_at c = tab (λ (k : ℕ). get_or c (1 + k) 0) 12

-- the eight values
unfoldable pub fields_at : List ℕ → List ℤ
fields_at c = tab (field_at c) 8

-- the card in 37 bytes
abbrev pub card_of : List ℕ → Card
card_of c = record { serial = record { len = get_or c 0 0; digits = digits_at c }; fields = fields_at c }

-- ---- which bytes are a card
-- each field is in its range
unfoldable pub fields_ok : List ℕ → Bool
fields_ok c = every (λ (k : ℕ). fits_field k (field_at c k)) 8

-- 37 bytes, with a serial and eight such fields
abbrev pub is_card : List ℕ → Bool
is_card c = eqb (length c) 37 && holds_serial c && fields_ok c
