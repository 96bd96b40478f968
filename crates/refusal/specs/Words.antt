-- What each refusal of document 01, "Numbers that say no", says in words.
use Rattle.std.specs.Prelude.{ℕ, cond, List, [], ◌∷◌, leb, length, get_or}
use Prim.Native.String.{String}
use Rattle.serial.specs.Ascii.{ascii}

-- from 0, which is no refusal and has no words, to 21
unfoldable pub table : List String
table =
    ""
    ∷ "not 1 to 12 digits"
    ∷ "the book is not well formed"
    ∷ "the serial is withdrawn"
    ∷ "no card with that serial"
    ∷ "blocks unequal, or over 4,096 samples"
    ∷ "a sample outside the 24-bit range"
    ∷ "a start setting out of range"
    ∷ "no such port"
    ∷ "the port is open already"
    ∷ "the port is not open"
    ∷ "no such field"
    ∷ "a value outside its range"
    ∷ "a field not written"
    ∷ "no interval has closed yet"
    ∷ "nothing is held on this port"
    ∷ "no register has this byte address"
    ∷ "MIN or MAX of a slot that is off"
    ∷ "no card in force and none waits"
    ∷ "the serial is in that section already"
    ∷ "the section is full"
    ∷ "the buffer is too short"
    ∷ []

-- the words of a number; any number but those of the refusals has none
unfoldable pub words_of : ℕ → List ℕ
words_of n = ascii (get_or table n "")

-- how many bytes of a text are written where there is room for so many: all of them, or none
unfoldable pub written_of : List ℕ → ℕ → ℕ
written_of t room = cond (leb (length t) room) (length t) 0
