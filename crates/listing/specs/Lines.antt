-- The lines of the listing. One space, 32, parts the items of a line; a line feed, 10, ends it.
use Rattle.std.specs.Prelude.{ℕ, zero, suc, ◌+◌, ◌≡◌, true, cond, List, [], ◌∷◌, ◌++◌, ℤ, Option, Some, None}
use Rattle.serial.specs.Places.{part}
use Rattle.serial.specs.Serials.{text_of}
use Rattle.card.specs.Cards.{fields_at}
use Rattle.section.specs.Sections.{entry_at}
use Rattle.book.specs.Book.{cards, withdrawn, well_formed}
use Rattle.reader.specs.declared.Kind.{Kind}
use Rattle.reader.specs.declared.Kind.TheVariants.{Card, Withdrawn}
use Rattle.reader.specs.declared.Entry.{Entry}
use Rattle.reader.specs.Walk.{step_after}
use Rattle.decimal.specs.Decimals.{decimal, signed_decimal}

-- REFUSED 2
unfoldable pub refused_line : List ℕ
refused_line = 82 ∷ 69 ∷ 70 ∷ 85 ∷ 83 ∷ 69 ∷ 68 ∷ 32 ∷ 50 ∷ 10 ∷ []

-- CARDS n WITHDRAWN w
unfoldable pub cards_word : List ℕ
cards_word = 67 ∷ 65 ∷ 82 ∷ 68 ∷ 83 ∷ 32 ∷ []

unfoldable pub withdrawn_word : List ℕ
withdrawn_word = 32 ∷ 87 ∷ 73 ∷ 84 ∷ 72 ∷ 68 ∷ 82 ∷ 65 ∷ 87 ∷ 78 ∷ 32 ∷ []

unfoldable pub first_line : List ℕ → List ℕ
first_line b = cards_word ++ decimal (cards b).count ++ withdrawn_word ++ decimal (withdrawn b).count ++ (10 ∷ [])

-- the fields in decimal, a space before each
unfoldable pub fields_text : List ℤ → List ℕ
fields_text [] = []
fields_text (v ∷ vs) = (32 ∷ signed_decimal v) ++ fields_text vs

-- a card's serial and its fields 1 to 8
unfoldable pub card_text : List ℕ → List ℕ
card_text c = text_of c ++ fields_text (fields_at c) ++ (10 ∷ [])

-- W and a withdrawn serial
unfoldable pub serial_text : List ℕ → List ℕ
serial_text e = (87 ∷ 32 ∷ []) ++ text_of e ++ (10 ∷ [])

-- the line of card k and of withdrawn serial k, from 0
unfoldable pub card_line : List ℕ → ℕ → List ℕ
card_line b k = card_text (entry_at b (cards b) k)

unfoldable pub withdrawn_line : List ℕ → ℕ → List ℕ
withdrawn_line b k = serial_text (entry_at b (withdrawn b) k)

-- line 0, line 1, and so on, n of them
unfoldable pub lines : (ℕ → List ℕ) → ℕ → List ℕ
lines p zero = []
lines p (suc n) = lines p n ++ p n

-- a line for each card, then one for each withdrawn serial, in book order
unfoldable pub entries_text : List ℕ → List ℕ
entries_text b = lines (card_line b) (cards b).count ++ lines (withdrawn_line b) (withdrawn b).count

-- the whole listing: a bad book, longer ones included, gives one line only
unfoldable pub listing : List ℕ → List ℕ
listing b = cond (well_formed b) (first_line b ++ entries_text b) refused_line

-- ---- a listing made by a walk
-- the line of an entry of a kind that stands at a place
unfoldable pub line_at : List ℕ → Kind → ℕ → List ℕ
line_at b Card at = card_text (part b at 37)
line_at b Withdrawn at = serial_text (part b at 13)

-- the line of what a reader finds, and none at the end
unfoldable pub found_text : List ℕ → Option Entry → List ℕ
found_text b (Some e) = line_at b e.kind e.at
found_text b None = []

-- what is promised of it: the lines of the steps of a walk are those of the definition
abbrev pub WalkedListing : Type 0
WalkedListing =
    (b : List ℕ) → well_formed b ≡ true → lines (λ (k : ℕ). found_text b (step_after b k).found) ((cards b).count + (withdrawn b).count) ≡ entries_text b
