-- Adding a card and withdrawing a serial: the answer, and what the lent buffer holds then.
use Rattle.std.specs.Prelude.{ℕ, ◌+◌, ◌-◌, ◌*◌, ◌/◌, ◌%◌, ◌≤◌, ◌<◌, ◌≡◌, Bool, cond, not, ◌&&◌, List, [], ◌∷◌, ◌++◌, ℤ, length, take, drop, leb, ltb, eqb}
use Rattle.serial.specs.Places.{part, put}
use Rattle.serial.specs.Serials.{is_serial, serial_of, serial_bytes}
use Rattle.card.specs.Fields.{values_fit}
use Rattle.card.specs.Cards.{card_bytes}
use Rattle.section.specs.Sections.{end_of, has}
use Rattle.book.specs.Book.{cards, withdrawn, well_formed}
use Rattle.book.specs.Answers.{Answer, accepted, ask}
use Rattle.section.specs.declared.Section.{Section}

-- a well-formed book in the first used bytes of a buffer; there is none where the buffer has fewer
unfoldable pub book_in : List ℕ → ℕ → Bool
book_in b used = leb used (length b) && well_formed (take used b)

-- a count as two bytes, low byte first
unfoldable pub count_bytes : ℕ → List ℕ
count_bytes n = n % 256 ∷ n / 256 % 256 ∷ []

-- the book with the entry x last in the section s: one more in the section's count, and what stood behind the section after x
unfoldable pub with_entry : List ℕ → Section → List ℕ → List ℕ
with_entry b s x = take (s.base - 2) b ++ count_bytes (s.count + 1) ++ part b s.base (s.count * s.size) ++ x ++ drop (end_of s) b

-- where that book goes into the buffer of which it takes used bytes: the section lies in them, behind its count, there is room for x, and the count can go up
pub record Takes (b : List ℕ) (used : ℕ) (s : Section) (x : List ℕ) : Type 0 where
  pub counted : 2 ≤ s.base
  pub inside : end_of s ≤ used
  pub room : used + length x ≤ length b
  pub few : s.count < 65535

-- whether one entry more with the serial t fits: not there yet, the section below its limit, and room bytes enough for the longer book
unfoldable pub room_for : List ℕ → Section → ℕ → List ℕ → ℕ → Answer
room_for b s limit t room =
    ask (not (has b s t)) 19
    (ask (ltb s.count limit) 20
    (ask (leb (length b + s.size) room) 21
    (accepted (length b + s.size))))

-- where such an entry is ready for the buffer: the section lies behind its count in the book of used bytes, and x is an entry of its size
pub record Ready (b : List ℕ) (used : ℕ) (s : Section) (limit : ℕ) (x : List ℕ) : Type 0 where
  pub counted : 2 ≤ s.base
  pub inside : end_of s ≤ used
  pub within : used ≤ length b
  pub short : used ≤ 44548
  pub entry : length x ≡ s.size
  pub small : s.size ≤ 37
  pub bound : limit ≤ 1024

-- what the buffer b holds after an answer: where it accepts, the new book at the front, and bytes past it stay; else what it held
unfoldable pub buffer_after : Answer → List ℕ → List ℕ → List ℕ
buffer_after a b new = cond (eqb a.number 0) (put b 0 new) b

-- ---- adding the card with the serial t and the values f, its checks in order
unfoldable pub add_answer : List ℕ → ℕ → List ℕ → List ℤ → Answer
add_answer b used t f =
    ask (is_serial t) 1
    (ask (values_fit f) 12
    (ask (book_in b used) 2
    (room_for (take used b) (cards (take used b)) 1024 t (length b))))

-- what the buffer holds then
unfoldable pub added : List ℕ → ℕ → List ℕ → List ℤ → List ℕ
added b used t f = buffer_after (add_answer b used t f) b (with_entry (take used b) (cards (take used b)) (card_bytes (serial_of t) f))

-- ---- withdrawing the serial t, its checks in order
unfoldable pub withdraw_answer : List ℕ → ℕ → List ℕ → Answer
withdraw_answer b used t =
    ask (is_serial t) 1
    (ask (book_in b used) 2
    (room_for (take used b) (withdrawn (take used b)) 512 t (length b)))

-- what the buffer holds then
unfoldable pub after_withdraw : List ℕ → ℕ → List ℕ → List ℕ
after_withdraw b used t = buffer_after (withdraw_answer b used t) b (with_entry (take used b) (withdrawn (take used b)) (serial_bytes (serial_of t)))
