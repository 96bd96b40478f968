-- The ways through what is read of an entry, each as an answer and what is lent then.
use Prim.Native.Nat.{ℕ, ◌+◌, ◌≤◌, ◌<◌}
use mathlib.Core.Path.{◌≡◌, refl}
use mathlib.Core.Bool.{true, false, ◌&&◌}
use mathlib.Core.List.{List, ◌++◌}
use native.Mathlib.Omega.{arith}
use lib.IntN.{ℤ}
use lib.Dec.{leb}
use lib.ListN.{length, drop, get_or, length-take, length-drop}
use borrow.Author.Tests.{leb-true, le-leb, lt-leb}
use Rattle.serial.specs.Every.{every}
use Rattle.serial.specs.Places.{put}
use Rattle.book.specs.Book.{well_formed}
use Rattle.serial.specs.Serials.{holds_serial, place_ok, text_of}
use Rattle.serial.proofs.Every.{and_left, and_right}
use Rattle.card.specs.Cards.{is_card, fields_at}
use Rattle.book.specs.Answers.{accepted, refused}
use Rattle.lookup.proofs.Answers.{ask_within}
use Rattle.stock.specs.Reading.{check_answer, serial_answer, serial_text, fields_answer, fields_after}

-- ---- a serial's digits
pub no_serial : (e old : List ℕ) → (leb 13 (length e) && holds_serial e) ≡ false → (refused 2 ≡ serial_answer e (length old)) × (old ≡ serial_text e old)
unfolding serial_text serial_answer
no_serial e old h = rw h (refl, refl)

pub no_digits_room : (e old : List ℕ) → (leb 13 (length e) && holds_serial e) ≡ true → length old < length (text_of e)
    → (refused 21 ≡ serial_answer e (length old)) × (old ≡ serial_text e old)
unfolding serial_text serial_answer
no_digits_room e old h l = rw (h, lt-leb (length (text_of e)) (length old) l) (refl, refl)

pub serial_read : (e old : List ℕ) → (leb 13 (length e) && holds_serial e) ≡ true → length (text_of e) ≤ length old
    → (accepted (length (text_of e)) ≡ serial_answer e (length old)) × (put old 0 (text_of e) ≡ serial_text e old)
unfolding serial_text serial_answer
serial_read e old h l = rw (h, le-leb (length (text_of e)) (length old) l) (refl, refl)

-- a serial has at most twelve digits
pub twelve : (e : List ℕ) → holds_serial e ≡ true → get_or e 0 0 ≤ 12
unfolding holds_serial
twelve e h =
    let a = leb 1 (get_or e 0 0) in
    let b = leb (get_or e 0 0) 12 in
    let q = every (λ (k : ℕ). place_ok (get_or e 0 0) k (get_or e (1 + k) 0)) 12 in
    leb-true _ _ (and_right a b (and_left (a && b) q h))

-- and they lie in 13 bytes
pub text_length : (e : List ℕ) → 13 ≤ length e → get_or e 0 0 ≤ 12 → length (text_of e) ≡ get_or e 0 0
unfolding text_of
text_length e l n = simp (length-take, length-drop) (omega arith)

-- ---- a card's fields
pub no_card : (c : List ℕ) (old : List ℤ) → is_card c ≡ false → (refused 2 ≡ fields_answer c (length old)) × (old ≡ fields_after c old)
unfolding fields_after fields_answer
no_card c old h = rw h (refl, refl)

pub no_fields_room : (c : List ℕ) (old : List ℤ) → is_card c ≡ true → length old < 8 → (refused 21 ≡ fields_answer c (length old)) × (old ≡ fields_after c old)
unfolding fields_after fields_answer
no_fields_room c old h l = rw (h, lt-leb 8 (length old) l) (refl, refl)

pub fields_read : (c : List ℕ) (old : List ℤ) → is_card c ≡ true → 8 ≤ length old → (accepted 8 ≡ fields_answer c (length old)) × (fields_at c ++ drop 8 old ≡ fields_after c old)
unfolding fields_after fields_answer
fields_read c old h l = rw (h, le-leb 8 (length old) l) (refl, refl)

-- ---- no answer is beyond what is lent
pub check_none : (b : List ℕ) → (check_answer b).value ≤ 0
unfolding check_answer
check_none b = ask_within (well_formed b) 2 _ _ (λ f. omega arith)

pub serial_within : (e : List ℕ) (room : ℕ) → (serial_answer e room).value ≤ room
unfolding serial_answer
serial_within e room =
    ask_within (leb 13 (length e) && holds_serial e) 2 _ _ (λ h. ask_within (leb (length (text_of e)) room) 21 _ _ (λ l. leb-true _ _ l))

pub fields_within : (c : List ℕ) (room : ℕ) → (fields_answer c room).value ≤ room
unfolding fields_answer
fields_within c room = ask_within (is_card c) 2 _ _ (λ h. ask_within (leb 8 room) 21 _ _ (λ l. leb-true _ _ l))
