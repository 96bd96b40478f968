-- A number as a line has it: decimal with an optional `-`, or `0x` and hexadecimal digits, within the range of i64; and a byte.
use Rattle.std.specs.Prelude.{ℕ, ◌+◌, ◌-◌, ◌*◌, ◌^◌, cond, ◌&&◌, Option, Some, None, List, [], ◌∷◌, leb, ltb, eqb, ℤ, pos, neg_ℤ, length, drop}
use Rattle.console.specs.Texts.{begins_with}

-- what a byte is worth as a digit: `0` to `9`, `A` to `F` and `a` to `f`
unfoldable pub digit_of : ℕ → Option ℕ
digit_of c =
    cond (leb 48 c && leb c 57) (Some (c - 48))
    (cond (leb 65 c && leb c 70) (Some (c - 65 + 10))
    (cond (leb 97 c && leb c 102) (Some (c - 97 + 10))
    None))

-- a digit in base b, and what stands behind it
abbrev pub at_digit : ℕ → Option ℕ → (ℕ → Option ℕ) → Option ℕ
at_digit b None more = None
at_digit b (Some d) more = cond (ltb d b) (more d) None

-- digits in base b, behind others that are worth a
unfoldable pub worth_behind : ℕ → ℕ → List ℕ → Option ℕ
worth_behind b a [] = Some a
worth_behind b a (c ∷ cs) = at_digit b (digit_of c) (λ d. worth_behind b (a * b + d) cs)

abbrev pub up_to : ℕ → Option ℕ → Option ℕ
up_to most None = None
up_to most (Some n) = cond (leb n most) (Some n) None

-- at least one digit, worth at most 2^63
unfoldable pub digits_of : ℕ → List ℕ → Option ℕ
digits_of b [] = None
digits_of b (c ∷ cs) = up_to (2 ^ 63) (worth_behind b 0 (c ∷ cs))

-- from 0 to 2^63 - 1
unfoldable pub positive : Option ℕ → Option ℤ
positive None = None
positive (Some n) = cond (ltb n (2 ^ 63)) (Some (pos n)) None

-- from -2^63 to 0
unfoldable pub negative : Option ℕ → Option ℤ
negative None = None
negative (Some n) = cond (leb n (2 ^ 63)) (Some (neg_ℤ (pos n))) None

-- `0x` and hexadecimal digits, `-` and decimal ones, or those alone
unfoldable pub value_of : List ℕ → Option ℤ
value_of text =
    cond (begins_with (48 ∷ 120 ∷ []) text) (positive (digits_of 16 (drop 2 text)))
    (cond (begins_with (45 ∷ []) text) (negative (digits_of 10 (drop 1 text)))
    (positive (digits_of 10 text)))

-- exactly two hexadecimal digits, without `0x`
unfoldable pub pair_of : List ℕ → Option ℤ
pair_of text = cond (eqb (length text) 2) (positive (digits_of 16 text)) None
