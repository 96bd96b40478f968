-- Looking a serial up: the place of its card, and the card's 37 bytes.
use Rattle.std.specs.Prelude.{ℕ, cond, not, List, [], eqb}
use Rattle.serial.specs.Places.{part}
use Rattle.serial.specs.Serials.{is_serial}
use Rattle.section.specs.Sections.{place_of, find_in, has}
use Rattle.book.specs.Book.{cards, withdrawn, well_formed}
use Rattle.book.specs.Answers.{Answer, accepted, ask}

-- the answer in a well-formed book. A withdrawn serial is refused whether or not it has a card
unfoldable pub seek_of : List ℕ → List ℕ → Answer
seek_of b t = ask (not (has b (withdrawn b) t)) 3 (ask (has b (cards b) t) 4 (accepted (place_of (cards b) (find_in b (cards b) t))))

-- the answer, its checks in order
unfoldable pub lookup_of : List ℕ → List ℕ → Answer
lookup_of b t = ask (is_serial t) 1 (ask (well_formed b) 2 (seek_of b t))

-- the card's 37 bytes, or nothing where lookup refuses
unfoldable pub card_part : List ℕ → List ℕ → List ℕ
card_part b t = cond (eqb (lookup_of b t).number 0) (part b (lookup_of b t).value 37) []
