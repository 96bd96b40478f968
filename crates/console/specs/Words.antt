-- The word that a line begins with, and the items that its step has.
use Rattle.std.specs.Prelude.{ℕ, Bool, cond, ◌||◌, List, [], ◌∷◌, leb, length}
use Rattle.serial.specs.Ascii.{ascii}
use Rattle.serial.specs.Texts.{same_text}
use Rattle.console.specs.declared.words.Word.{Word}
use Rattle.console.specs.declared.words.Word.TheVariants.{Start, Open, Write, Commit, Drop, Hold, Read, Poll, Block, Reset, Cards, Help, Other}
use Rattle.console.specs.declared.words.Kind.{Kind}
use Rattle.console.specs.declared.words.Kind.TheVariants.{Number, Field, Slot, Register, Room}

-- a word's letters
unfoldable pub letters_of : Word → List ℕ
letters_of Start = ascii "start"
letters_of Open = ascii "open"
letters_of Write = ascii "write"
letters_of Commit = ascii "commit"
letters_of Drop = ascii "drop"
letters_of Hold = ascii "hold"
letters_of Read = ascii "read"
letters_of Poll = ascii "poll"
letters_of Block = ascii "block"
letters_of Reset = ascii "reset"
letters_of Cards = ascii "cards"
letters_of Help = ascii "help"
letters_of Other = []

abbrev pub words : List Word
words = Start ∷ Open ∷ Write ∷ Commit ∷ Drop ∷ Hold ∷ Read ∷ Poll ∷ Block ∷ Reset ∷ Cards ∷ Help ∷ []

-- the one of some words that an item is
abbrev pub first_of : List Word → List ℕ → Word
first_of [] item = Other
first_of (w ∷ ws) item = cond (same_text (letters_of w) item) w (first_of ws item)

unfoldable pub word_of : List ℕ → Word
word_of item = first_of words item

-- the most items that a step has
abbrev pub most : ℕ
most = 13

-- what stands behind it, item by item; an open has its text besides, a poll its bytes, and a block its samples
unfoldable pub items_of : Word → List Kind
items_of Start = Number ∷ Number ∷ Slot ∷ Slot ∷ Slot ∷ Slot ∷ Slot ∷ Slot ∷ Number ∷ Number ∷ Number ∷ Number ∷ Number ∷ []
items_of Open = Number ∷ []
items_of Write = Number ∷ Field ∷ Number ∷ []
items_of Commit = Number ∷ []
items_of Drop = Number ∷ []
items_of Hold = Number ∷ []
items_of Read = Number ∷ Register ∷ []
items_of Poll = Room ∷ []
items_of Block = []
items_of Reset = Number ∷ []
items_of Cards = []
items_of Help = []
items_of Other = []

-- so many of them are enough: all, or eight, for a start's last five may be left out
abbrev pub enough : Word → ℕ → Bool
enough w count = leb (length (items_of w)) count || leb 8 count
