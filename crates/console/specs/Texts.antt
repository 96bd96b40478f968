-- Words, and the items of a line, which one space parts. A text is the list of its bytes.
use Rattle.std.specs.Prelude.{ℕ, suc, ◌-◌, Bool, true, false, cond, ◌&&◌, List, [], ◌∷◌, eqb, length, take, get_or}

-- a text begins with a word
unfoldable pub begins_with : List ℕ → List ℕ → Bool
begins_with [] text = true
begins_with (w ∷ ws) [] = false
begins_with (w ∷ ws) (c ∷ cs) = eqb c w && begins_with ws cs

-- how far it is to a byte, such as the space (32) that ends an item; without one, to the end
unfoldable pub length_to : ℕ → List ℕ → ℕ
length_to stop [] = 0
length_to stop (c ∷ cs) = cond (eqb c stop) 0 (suc (length_to stop cs))

-- a carriage return (13) right before a line's end is no part of the line
unfoldable pub without_return : List ℕ → List ℕ
without_return line = cond (eqb (get_or line (length line - 1) 0) 13) (take (length line - 1) line) line
