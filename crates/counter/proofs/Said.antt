-- What stock says by a signed number: each of its answers is read back from it. And the fields of a card that lookup finds.
use Prim.Native.Nat.{ℕ, suc, ◌<◌}
use mathlib.Core.Path.{◌≡◌, refl, sym, ap, ◌∙◌}
use mathlib.Core.Bool.{Bool, true, false, not, ◌&&◌}
use mathlib.Core.List.{List, [], ◌∷◌, ◌++◌, append-nil}
use native.Mathlib.Numerals.{add-one}
use native.Mathlib.Omega.{arith}
use lib.IntN.{ℤ, pos, negsuc, nat_abs}
use lib.Signed.{le_z}
use lib.Dec.{leb, ltb, eqb}
use lib.ListN.{length, take, drop, get_or, replicate}
use lib.Seq.{drop-cons}
use borrow.Author.Tests.{leb-false}
use Rattle.std.specs.Prelude.{Ok, Err, cond}
use Rattle.std.proofs.lemmas.List.{drop_all}
use Rattle.refusal.specs.declared.Refusal.{Refusal}
use Rattle.refusal.specs.declared.Refusal.TheVariants.{Malformed}
use Rattle.refusal.specs.Numbers.{number_of}
use Rattle.refusal.proofs.Numbers.{numbered_back}
use Rattle.serial.specs.Serials.{is_serial}
use Rattle.serial.proofs.Every.{every_at, and_left, and_right}
use Rattle.card.specs.Cards.{is_card, fields_at}
use Rattle.card.specs.Fields.{values_fit}
use Rattle.section.specs.declared.Kind.TheVariants.{Cards}
use Rattle.section.specs.declared.Section.{Section}
use Rattle.section.specs.Sections.{entry_at, entry_ok, entries_ok, distinct, section_ok, find_in, has}
use Rattle.section.proofs.Sections.{section_lies}
use Rattle.book.specs.Book.{cards, withdrawn, sized, well_formed}
use Rattle.book.specs.Answers.{Answer, accepted, refused, ask}
use Rattle.book.proofs.Answers.{refused_number, answer_only}
use Rattle.book.proofs.Sections.{formed_sized, cards_lie}
use Rattle.lookup.specs.Lookup.{seek_of, lookup_of, card_part}
use Rattle.lookup.proofs.Answers.{placed}
use Rattle.change.specs.Change.{book_in, room_for, add_answer, withdraw_answer}
use Rattle.stock.specs.Signed.{signed}
use Rattle.stock.specs.Reading.{check_answer, fields_answer, fields_after}
use Rattle.counter.specs.Asked.{answered_of, refusal_of, fields_of, found_fields}

-- ---- a signed number's two ways
pub said_accepted : (v : ℤ) → le_z (pos 0) v ≡ true → accepted (nat_abs v) ≡ answered_of v
unfolding answered_of
said_accepted (pos n) h = refl
said_accepted (negsuc n) h = cc

pub said_refused : (v : ℤ) → le_z (pos 0) v ≡ false → refused (number_of (refusal_of (nat_abs v))) ≡ answered_of v
unfolding answered_of
said_refused (pos n) h = absurd (omega (arith, leb-false 0 n h))
said_refused (negsuc n) h = ap (λ (k : ℕ). refused (number_of (refusal_of k))) (sym (add-one n))

-- ---- each answer comes back
-- an answer that comes back
abbrev Back : Answer → Type 0
Back a = answered_of (signed a) ≡ a

-- a test whose refusal comes back, before an answer that does
back_ask : (t : Bool) (r : ℕ) (a : Answer) → Back (refused r) → Back a → Back (ask t r a)
back_ask true r a h k = k
back_ask false r a h k = h

pub lookup_back : (b t : List ℕ) → answered_of (signed (lookup_of b t)) ≡ lookup_of b t
unfolding answered_of signed lookup_of seek_of
lookup_back b t =
    back_ask (is_serial t) 1 _ refl (back_ask (well_formed b) 2 _ refl
    (back_ask (not (has b (withdrawn b) t)) 3 _ refl (back_ask (has b (cards b) t) 4 _ refl refl)))

pub check_back : (b : List ℕ) → answered_of (signed (check_answer b)) ≡ check_answer b
unfolding answered_of signed check_answer
check_back b = back_ask (well_formed b) 2 _ refl refl

pub fields_back : (c : List ℕ) (room : ℕ) → answered_of (signed (fields_answer c room)) ≡ fields_answer c room
unfolding answered_of signed fields_answer
fields_back c room = back_ask (is_card c) 2 _ refl (back_ask (leb 8 room) 21 _ refl refl)

room_back : (b : List ℕ) (s : Section) (limit : ℕ) (t : List ℕ) (room : ℕ) → Back (room_for b s limit t room)
unfolding answered_of signed room_for
room_back b s limit t room =
    back_ask (not (has b s t)) 19 _ refl (back_ask (ltb s.count limit) 20 _ refl (back_ask (leb _ room) 21 _ refl refl))

pub add_back : (b : List ℕ) (used : ℕ) (t : List ℕ) (f : List ℤ) → answered_of (signed (add_answer b used t f)) ≡ add_answer b used t f
unfolding answered_of signed add_answer
add_back b used t f =
    back_ask (is_serial t) 1 _ refl (back_ask (values_fit f) 12 _ refl (back_ask (book_in b used) 2 _ refl
    (room_back (take used b) (cards (take used b)) 1024 t (length b))))

pub withdraw_back : (b : List ℕ) (used : ℕ) (t : List ℕ) → answered_of (signed (withdraw_answer b used t)) ≡ withdraw_answer b used t
unfolding answered_of signed withdraw_answer
withdraw_back b used t =
    back_ask (is_serial t) 1 _ refl (back_ask (book_in b used) 2 _ refl
    (room_back (take used b) (withdrawn (take used b)) 512 t (length b)))

-- ---- eight values one by one
pub eight_of : (f : List ℤ) → length f ≡ 8
    → get_or f 0 (pos 0) ∷ get_or f 1 (pos 0) ∷ get_or f 2 (pos 0) ∷ get_or f 3 (pos 0) ∷ get_or f 4 (pos 0) ∷ get_or f 5 (pos 0) ∷ get_or f 6 (pos 0) ∷ get_or f 7 (pos 0) ∷ [] ≡ f
eight_of f e =
    let step : (k : ℕ) → k < 8 → get_or f k (pos 0) ∷ drop (suc k) f ≡ drop k f = λ k l. sym (drop-cons f k (pos 0) (omega (arith, e))) in
    rw (sym (drop_all 8 f (omega (arith, e))), step 7 (omega arith), step 6 (omega arith), step 5 (omega arith), step 4 (omega arith), step 3 (omega arith), step 2 (omega arith), step 1 (omega arith), step 0 (omega arith)) refl

-- ---- a card's fields
pub card_refused : (c : List ℕ) (r : Refusal) → refused (number_of r) ≡ fields_answer c 8 → Err r ≡ fields_of c
unfolding fields_answer fields_of
card_refused c r e = by (is_card c) e
  where
    by : (t : Bool) → refused (number_of r) ≡ ask t 2 (accepted 8) → Err r ≡ cond t (Ok (fields_at c)) (Err Malformed)
    by true e = let h = answer_only (Err r) (Ok 8) e in cc
    by false e = let h = answer_only (Err r) (Err Malformed) e in let s : r ≡ Malformed = cc in ap Err s

pub card_read : (c : List ℕ) (n : ℕ) (f : List ℤ) → accepted n ≡ fields_answer c 8 → f ≡ fields_after c (replicate 8 (pos 0)) → Ok f ≡ fields_of c
unfolding fields_answer fields_after fields_of
card_read c n f e g = by (is_card c) e g
  where
    by : (t : Bool) → accepted n ≡ ask t 2 (accepted 8) → f ≡ cond (eqb (ask t 2 (accepted 8)).number 0) (fields_at c ++ []) (replicate 8 (pos 0)) → Ok f ≡ cond t (Ok (fields_at c)) (Err Malformed)
    by true e g = ap Ok (g ∙ append-nil (fields_at c))
    by false e g = let h = answer_only (Ok n) (Err Malformed) e in cc

-- ---- the card that lookup finds, whose entry is a card as every other of a well-formed book
pub none_found : (b t : List ℕ) (r : Refusal) → refused (number_of r) ≡ lookup_of b t → Err r ≡ found_fields b t
unfolding found_fields
none_found b t r e = simp (sym e, refused_number r, numbered_back r)

found_card : (b t : List ℕ) (n : ℕ) → lookup_of b t ≡ accepted n → is_card (card_part b t) ≡ true
unfolding card_part well_formed entries_ok entry_ok entry_at
found_card b t n e =
    let p = placed b t n e in
    let fine = sym (section_lies b (cards b) (cards_lie b (formed_sized b p.formed))) ∙ and_right (sized b) (section_ok b (cards b)) (and_left (sized b && section_ok b (cards b)) (section_ok b (withdrawn b)) p.formed) in
    let every = every_at (λ (k : ℕ). entry_ok Cards (entry_at b (cards b) k)) (cards b).count (and_left (entries_ok b (cards b)) (distinct b (cards b)) fine) in
    rw e (rw p.place (every (find_in b (cards b) t) p.card))

pub one_found : (b t : List ℕ) (n : ℕ) → accepted n ≡ lookup_of b t → fields_of (card_part b t) ≡ found_fields b t
unfolding fields_of found_fields
one_found b t n e = simp (found_card b t n (sym e), sym e)
