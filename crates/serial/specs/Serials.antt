-- A serial, from document 01, "A probe's card": 1 to 12 ASCII digits. It is text, so 0417 and 417 are two serials.
use Rattle.std.specs.Prelude.{ℕ, ◌+◌, ◌-◌, Bool, cond, ◌&&◌, List, ◌∷◌, ◌++◌, length, get_or, take, drop, replicate, leb, ltb, eqb}
use Rattle.serial.specs.Every.{every}
use Rattle.serial.specs.declared.Serial.{Serial}

-- an ASCII digit
abbrev pub is_digit : ℕ → Bool
is_digit d = leb 48 d && leb d 57

-- every byte is a digit
unfoldable pub digits_ok : List ℕ → Bool
digits_ok t = every (λ (k : ℕ). is_digit (get_or t k 0)) (length t)

-- 1 to 12 ASCII digits
unfoldable pub is_serial : List ℕ → Bool
is_serial t = leb (length t) 12 && leb 1 (length t) && digits_ok t

-- up to twelve digits, and zero bytes after them
unfoldable pub padded : List ℕ → List ℕ
padded t = t ++ replicate (12 - length t) 0

-- the serial of no text: no digits
abbrev pub no_serial : Serial
no_serial = record { len = 0; digits = replicate 12 0 }

-- the serial with the digits t; none where t is no serial
unfoldable pub serial_of : List ℕ → Serial
serial_of t = cond (is_serial t) (record { len = length t; digits = padded t }) no_serial

-- its 13 bytes: one length byte, and the twelve
unfoldable pub serial_bytes : Serial → List ℕ
serial_bytes s = s.len ∷ s.digits

-- what may stand at place k of the twelve, where there are n digits: a digit, and after them zero
unfoldable pub place_ok : ℕ → ℕ → ℕ → Bool
place_ok n k d = cond (ltb k n) (is_digit d) (eqb d 0)

-- the first 13 bytes of e are those of a serial
unfoldable pub holds_serial : List ℕ → Bool
holds_serial e = leb 1 (get_or e 0 0) && leb (get_or e 0 0) 12 && every (λ (k : ℕ). place_ok (get_or e 0 0) k (get_or e (1 + k) 0)) 12

-- the digits of the serial that e begins with
unfoldable pub text_of : List ℕ → List ℕ
text_of e = take (get_or e 0 0) (drop 1 e)
