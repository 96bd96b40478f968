-- The lines that the counter prints.
use Rattle.std.specs.Prelude.{ℕ, List, [], ◌∷◌, ◌++◌, ℤ, pos, take}
use Rattle.decimal.specs.Decimals.{signed_decimal}
use Rattle.serial.specs.Ascii.{ascii}
use Rattle.refusal.specs.Words.{words_of}
use Rattle.counter.specs.declared.line.Line.{Line}

-- what stands in a line so far
unfoldable pub shown : Line → List ℕ
shown l = take l.len l.bytes

-- a name and a text; a line feed, 10, ends a line
unfoldable pub text_line : List ℕ → List ℕ → List ℕ
text_line name t = name ++ (32 ∷ []) ++ t ++ (10 ∷ [])

-- a name and a number
unfoldable pub number_line : List ℕ → ℤ → List ℕ
number_line name v = text_line name (signed_decimal v)

-- REFUSED, the number, and behind a colon (58) its words
unfoldable pub refused_line : ℕ → List ℕ
refused_line n = text_line (ascii "REFUSED") (signed_decimal (pos n) ++ (58 ∷ 32 ∷ []) ++ words_of n)
