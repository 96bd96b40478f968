-- Whole numbers in decimal: no zeros in front, a minus sign before a number below 0. A text is the list of its bytes.
use Rattle.std.specs.Prelude.{ℕ, zero, suc, ◌+◌, ◌-◌, ◌/◌, ◌%◌, cond, List, [], ◌∷◌, ◌++◌, ℤ, pos, negsuc, length, replicate, ltb}
use Rattle.decimal.specs.declared.Text.{Text}

-- the digits of n, at most so many, the last one at the end; 48 is ASCII 0
unfoldable pub digits : ℕ → ℕ → List ℕ
digits zero n = []
digits (suc k) n = let more = digits k (n / 10) ++ ((48 + n % 10) ∷ []) in cond (ltb n 10) ((48 + n) ∷ []) more

-- all of them: no number n has more than n + 1
unfoldable pub decimal : ℕ → List ℕ
decimal n = digits (suc n) n

-- 45 is the minus sign
unfoldable pub signed_decimal : ℤ → List ℕ
signed_decimal (pos n) = decimal n
signed_decimal (negsuc n) = 45 ∷ decimal (suc n)

-- a text at the end of twenty bytes, and the place where it begins; before it are zero bytes
unfoldable pub at_end : List ℕ → Text
at_end t = record { bytes = replicate (20 - length t) 0 ++ t; from = 20 - length t }

-- a number's text, of which none from -2^63 to 2^63 - 1 has more than twenty bytes
unfoldable pub number_text : ℤ → Text
number_text v = at_end (signed_decimal v)
