-- Laws of the changes' answers: what an accepted change says of the checks, and that no answer is beyond the buffer.
use Prim.Native.Nat.{ℕ, ◌+◌, ◌≤◌, ◌<◌}
use mathlib.Core.Path.{◌≡◌}
use mathlib.Core.Bool.{true, false, not}
use mathlib.Core.List.{List}
use native.Mathlib.Omega.{arith}
use lib.IntN.{ℤ}
use lib.ListN.{length, take}
use lib.Seq.{length-take-le}
use lib.Dec.{leb, ltb}
use borrow.Author.Tests.{not-true, ltb-true, leb-true}
use Rattle.serial.proofs.Every.{and_left, and_right}
use Rattle.serial.specs.Serials.{is_serial, serial_of, serial_bytes}
use Rattle.card.specs.Fields.{values_fit}
use Rattle.card.specs.Cards.{card_bytes}
use Rattle.serial.proofs.Serials.{length_bytes}
use Rattle.cardbytes.proofs.RoundTrip.{length_card, twelve_places}
use Rattle.section.specs.Sections.{has}
use Rattle.section.specs.declared.Section.{Section}
use Rattle.book.specs.Book.{cards, withdrawn, well_formed, Sized}
use Rattle.lookup.proofs.Answers.{ask_none, ask_within}
use Rattle.book.proofs.Sections.{formed_sized}
use Rattle.change.specs.Change.{book_in, Takes, room_for, Ready, add_answer, withdraw_answer}

-- there is room for one entry more
pub record Room (b : List ℕ) (s : Section) (limit : ℕ) (t : List ℕ) (room : ℕ) : Type 0 where
  pub new : has b s t ≡ false
  pub few : s.count < limit
  pub fits : length b + s.size ≤ room

room_has : (b : List ℕ) (s : Section) (limit : ℕ) (t : List ℕ) (room : ℕ) → (room_for b s limit t room).number ≡ 0 → Room b s limit t room
unfolding room_for
room_has b s limit t room e =
    let e₁ = ask_none (not (has b s t)) 18 _ e in
    let e₂ = ask_none (ltb s.count limit) 19 _ e₁.1 in
    let e₃ = ask_none (leb (length b + s.size) room) 20 _ e₂.1 in
    record { new = not-true _ e₁.0; few = ltb-true _ _ e₂.0; fits = leb-true _ _ e₃.0 }

-- a well-formed book in the first used bytes
pub record Holds (b : List ℕ) (used : ℕ) : Type 0 where
  pub test : book_in b used ≡ true
  pub within : used ≤ length b
  pub formed : well_formed (take used b) ≡ true
  pub long : length (take used b) ≡ used
  pub sizes : Sized (take used b)

pub holds : (b : List ℕ) (used : ℕ) → book_in b used ≡ true → Holds b used
unfolding book_in
holds b used e =
    let l = leb-true used (length b) (and_left (leb used (length b)) (well_formed (take used b)) e) in
    let f = and_right (leb used (length b)) (well_formed (take used b)) e in
    record { test = e; within = l; formed = f; long = length-take-le used b l; sizes = formed_sized (take used b) f }

-- an accepted card
pub record Adds (b : List ℕ) (used : ℕ) (t : List ℕ) (f : List ℤ) : Type 0 where
  pub serial : is_serial t ≡ true
  pub values : values_fit f ≡ true
  pub book : Holds b used
  pub room : Room (take used b) (cards (take used b)) 1024 t (length b)

pub adds : (b : List ℕ) (used : ℕ) (t : List ℕ) (f : List ℤ) → (add_answer b used t f).number ≡ 0 → Adds b used t f
unfolding add_answer
adds b used t f e =
    let e₁ = ask_none (is_serial t) 0 _ e in
    let e₂ = ask_none (values_fit f) 11 _ e₁.1 in
    let e₃ = ask_none (book_in b used) 1 _ e₂.1 in
    record { serial = e₁.0; values = e₂.0; book = holds b used e₃.0; room = room_has _ _ 1024 t (length b) e₃.1 }

-- an accepted withdrawal
pub record Withdraws (b : List ℕ) (used : ℕ) (t : List ℕ) : Type 0 where
  pub serial : is_serial t ≡ true
  pub book : Holds b used
  pub room : Room (take used b) (withdrawn (take used b)) 512 t (length b)

pub withdraws : (b : List ℕ) (used : ℕ) (t : List ℕ) → (withdraw_answer b used t).number ≡ 0 → Withdraws b used t
unfolding withdraw_answer
withdraws b used t e =
    let e₁ = ask_none (is_serial t) 0 _ e in
    let e₂ = ask_none (book_in b used) 1 _ e₁.1 in
    record { serial = e₁.0; book = holds b used e₂.0; room = room_has _ _ 512 t (length b) e₂.1 }

-- ---- the entry is ready for the buffer
-- a book of the right size is short
pub short_book : (b : List ℕ) → Sized b → length b ≤ 44548
short_book b z = omega (arith, z.whole, z.few_cards, z.few_withdrawn)

module _ (b : List ℕ) (used : ℕ) (t : List ℕ) (h : Holds b used) (serial : is_serial t ≡ true) where
  pub ready_card : (f : List ℤ) → length f ≡ 8 → Ready b used (cards (take used b)) 1024 (card_bytes (serial_of t) f)
  ready_card f eight =
      record {
        counted = omega arith;
        inside = omega (arith, h.sizes.whole, h.long);
        within = h.within;
        short = omega (arith, short_book _ h.sizes, h.long);
        entry = length_card (serial_of t) f (twelve_places t serial) eight;
        small = omega arith;
        bound = omega arith;
      }

  pub ready_serial : Ready b used (withdrawn (take used b)) 512 (serial_bytes (serial_of t))
  ready_serial =
      record {
        counted = omega arith;
        inside = omega (arith, h.sizes.whole, h.long);
        within = h.within;
        short = omega (arith, short_book _ h.sizes, h.long);
        entry = length_bytes t serial;
        small = omega arith;
        bound = omega arith;
      }

-- and where there is room the buffer takes it
pub takes : (b : List ℕ) (used : ℕ) (s : Section) (limit : ℕ) (t x : List ℕ) → Ready b used s limit x → (room_for (take used b) s limit t (length b)).number ≡ 0 → Takes b used s x
takes b used s limit t x r e =
    let h = room_has (take used b) s limit t (length b) e in
    let long = length-take-le used b r.within in
    record { counted = r.counted; inside = r.inside; room = omega (arith, h.fits, long, r.entry); few = omega (arith, h.few, r.bound) }

-- ---- no answer is beyond the buffer
room_within : (b : List ℕ) (s : Section) (limit : ℕ) (t : List ℕ) (room : ℕ) → (room_for b s limit t room).value ≤ room
unfolding room_for
room_within b s limit t room =
    ask_within (not (has b s t)) 19 _ _ (λ n. ask_within (ltb s.count limit) 20 _ _ (λ l. ask_within (leb (length b + s.size) room) 21 _ _ (λ f. leb-true _ _ f)))

pub add_within : (b : List ℕ) (used : ℕ) (t : List ℕ) (f : List ℤ) → (add_answer b used t f).value ≤ length b
unfolding add_answer
add_within b used t f =
    ask_within (is_serial t) 1 _ _ (λ s. ask_within (values_fit f) 12 _ _ (λ v. ask_within (book_in b used) 2 _ _ (λ h. room_within (take used b) (cards (take used b)) 1024 t (length b))))

pub withdraw_within : (b : List ℕ) (used : ℕ) (t : List ℕ) → (withdraw_answer b used t).value ≤ length b
unfolding withdraw_answer
withdraw_within b used t =
    ask_within (is_serial t) 1 _ _ (λ s. ask_within (book_in b used) 2 _ _ (λ h. room_within (take used b) (withdrawn (take used b)) 512 t (length b)))
