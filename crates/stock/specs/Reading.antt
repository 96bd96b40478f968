-- What the stock program reads: the check, the digits of an entry's serial, and the fields of a card.
use Rattle.std.specs.Prelude.{ℕ, cond, ◌&&◌, List, ◌++◌, ℤ, leb, eqb, length, drop}
use Rattle.serial.specs.Places.{put}
use Rattle.serial.specs.Serials.{holds_serial, text_of}
use Rattle.card.specs.Cards.{is_card, fields_at}
use Rattle.book.specs.Book.{well_formed}
use Rattle.book.specs.Answers.{Answer, accepted, ask}

-- 0 for a well-formed book
unfoldable pub check_answer : List ℕ → Answer
check_answer b = ask (well_formed b) 2 (accepted 0)

-- how many digits the serial has that e begins with, where room for so many bytes is lent. 2: e does not begin with the 13
-- bytes of a serial
unfoldable pub serial_answer : List ℕ → ℕ → Answer
serial_answer e room =
    ask (leb 13 (length e) && holds_serial e) 2
    (ask (leb (length (text_of e)) room) 21
    (accepted (length (text_of e))))

-- what the lent bytes hold then: the digits at the front, and bytes past them stay
unfoldable pub serial_text : List ℕ → List ℕ → List ℕ
serial_text e old = cond (eqb (serial_answer e (length old)).number 0) (put old 0 (text_of e)) old

-- the eight fields of the card c, where room for so many is lent. 2: c is not the 37 bytes of a card
unfoldable pub fields_answer : List ℕ → ℕ → Answer
fields_answer c room = ask (is_card c) 2 (ask (leb 8 room) 21 (accepted 8))

-- what the lent numbers are then: the fields at the front, and numbers past them stay
unfoldable pub fields_after : List ℕ → List ℤ → List ℤ
fields_after c old = cond (eqb (fields_answer c (length old)).number 0) (fields_at c ++ drop 8 old) old
