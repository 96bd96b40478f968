-- A value on the command line: a whole number in decimal, with a minus sign (45) before one below zero. A text is the list of its bytes.
use Rattle.std.specs.Prelude.{ℕ, zero, suc, ◌+◌, ◌-◌, ◌*◌, Bool, true, false, cond, ◌&&◌, List, Option, Some, None, ℤ, pos, ◌-ℤ◌, leb, eqb, length, get_or, drop}
use Rattle.serial.specs.Serials.{digits_ok}

-- the number in the first k digits of a text; 48 is ASCII 0
unfoldable pub numeral : List ℕ → ℕ → ℕ
numeral t zero = 0
numeral t (suc k) = 10 * numeral t k + (get_or t k 0 - 48)

-- no field's range reaches so far: a larger number is out of it just as well
unfoldable pub held : ℕ → ℕ
held n = cond (leb n 100000000) n 100000000

-- one digit or more, and nothing else
unfoldable pub is_numeral : List ℕ → Bool
is_numeral t = leb 1 (length t) && digits_ok t

-- the number of a size, below zero or not
unfoldable pub signed_by : Bool → ℕ → ℤ
signed_by below n = cond below (pos 0 -ℤ pos n) (pos n)

unfoldable pub sized_value : Bool → List ℕ → Option ℤ
sized_value below t = cond (is_numeral t) (Some (signed_by below (held (numeral t (length t))))) None

-- the number that a word is, if it is one
unfoldable pub value_of : List ℕ → Option ℤ
value_of w = cond (eqb (get_or w 0 0) 45) (sized_value true (drop 1 w)) (sized_value false w)
