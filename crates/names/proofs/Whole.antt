-- The tables are whole: every register of `address` and every field of a card has one name, in order, and no name stands twice.
use Prim.Native.Nat.{ℕ}
use Prim.Native.String.{String}
use mathlib.Core.Path.{◌≡◌, refl}
use mathlib.Core.Bool.{Bool, true, ◌&&◌, not}
use mathlib.Core.List.{List, [], ◌∷◌, ◌++◌, map}
use lib.ListN.{length, get_or}
use Rattle.serial.specs.Every.{every}
use Rattle.serial.specs.Ascii.{ascii}
use Rattle.serial.specs.Texts.{same_text}
use Rattle.address.specs.Addresses.{words, trackable, untracked}
use Rattle.names.specs.Names.{fields, registers, spelled}

abbrev numbers : List (String × ℕ) → List ℕ
numbers entries = map (λ (e : String × ℕ). e.1) entries

pub words_named : numbers registers ≡ words
unfolding registers words trackable untracked
words_named = refl

pub fields_named : numbers fields ≡ 1 ∷ 2 ∷ 3 ∷ 4 ∷ 5 ∷ 6 ∷ 7 ∷ 8 ∷ []
unfolding fields
fields_named = refl

-- no two of the names are the same
unfoldable pub distinct : List (List ℕ × ℕ) → Bool
distinct [] = true
distinct (e ∷ es) = every (λ (k : ℕ). not (same_text e.0 (get_or es k ([], 0)).0)) (length es) && distinct es

pub names_distinct : distinct (spelled (fields ++ registers)) ≡ true
unfolding distinct every same_text spelled fields registers ascii
names_distinct = refl
