-- A serial finds the card with exactly its digits, zeros too, and no other serial finds it.
use Prim.Native.Nat.{ℕ, ◌+◌, ◌≤◌, ◌<◌}
use mathlib.Core.Path.{◌≡◌, refl, sym, ap, ◌∙◌}
use mathlib.Core.Bool.{Bool, true, false, ◌&&◌}
use mathlib.Core.List.{List, [], ◌∷◌}
use native.Mathlib.Omega.{arith}
use lib.ListN.{length, get_or, take, length-take}
use lib.Seq.{take-take, get_or-take}
use lib.Dec.{leb, eqb}
use borrow.Author.Tests.{lt-ltb, leb-true}
use Rattle.serial.specs.Every.{every}
use Rattle.serial.proofs.Every.{every_at, every_same, first_passes, first_at, and_left, and_right}
use Rattle.serial.specs.Places.{part}
use Rattle.serial.proofs.Places.{length_part}
use Rattle.serial.specs.Serials.{is_serial, serial_of, serial_bytes, place_ok, holds_serial, text_of}
use Rattle.card.specs.Cards.{fields_ok}
use Rattle.serial.proofs.Serials.{length_bytes, byte_length, serial_short, text_back, text_serial, bytes_back}
use Rattle.section.specs.declared.Kind.TheVariants.{Cards}
use Rattle.section.specs.Sections.{place_of, entry_at, serial_at, entry_ok, entries_ok, same, fresh, distinct, section_ok, first_of, find_in, has}
use Rattle.book.specs.Book.{cards, withdrawn, sized, Sized, well_formed}
use Rattle.book.specs.Answers.{accepted}
use Rattle.lookup.specs.Lookup.{seek_of, lookup_of}
use Rattle.lookup.specs.Promises.{ExactDigits, OneSerial, EveryCard}
use Rattle.book.proofs.Sections.{formed_sized, cards_lie}
use Rattle.lookup.proofs.Answers.{Placed, placed}
use Rattle.section.proofs.Sections.{same_self, same_is, serial_first, section_lies, find_lies}

-- ---- a card and its first 13 bytes
-- the text is that of the first 13 bytes
pub text_first : (e : List ℕ) → get_or e 0 0 ≤ 12 → text_of (take 13 e) ≡ text_of e
unfolding text_of
text_first [] l = refl
text_first (x ∷ xs) l = take-take x 12 xs l

pub holds_first : (e : List ℕ) → holds_serial (take 13 e) ≡ holds_serial e
unfolding holds_serial
holds_first e =
    let n : get_or (take 13 e) 0 0 ≡ get_or e 0 0 = get_or-take 13 e 0 0 (omega arith) in
    rw n (ap (λ (a : Bool). leb 1 (get_or e 0 0) && leb (get_or e 0 0) 12 && a) (every_same _ _ 12 (λ k l. ap (place_ok (get_or e 0 0) k) (get_or-take 13 e (1 + k) 0 (omega arith)))))

-- ---- what is found has the digits
module _ (b t : List ℕ) (n : ℕ) (e : lookup_of b t ≡ accepted n) where
  p : Placed b t n
  p = placed b t n e

  serial_bytes_lem : serial_at b (cards b) (find_in b (cards b) t) ≡ serial_bytes (serial_of t)
  unfolding first_of serial_at
  serial_bytes_lem =
      let k = find_in b (cards b) t in
      let z = formed_sized b p.formed in
      let f = find_lies b (cards b) t (cards_lie b z) in
      same_is (part b (place_of (cards b) k) 13) (serial_bytes (serial_of t)) (length_part b (place_of (cards b) k) 13 (omega (arith, z.whole, p.card))) (length_bytes t p.serial)
      (rw f (first_passes (λ (k : ℕ). same (serial_at b (cards b) k) (serial_bytes (serial_of t))) (cards b).count (rw f at p.card)))

  first_bytes : take 13 (part b n 37) ≡ serial_bytes (serial_of t)
  unfolding entry_at
  first_bytes =
      ap (λ (m : ℕ). take 13 (part b m 37)) p.place
      ∙ sym (serial_first b (cards b) (find_in b (cards b) t) (omega arith))
      ∙ serial_bytes_lem

  found_text : text_of (part b n 37) ≡ t
  found_text =
      let l : get_or (part b n 37) 0 0 ≡ length t = sym (get_or-take 13 (part b n 37) 0 0 (omega arith)) ∙ ap (λ (x : List ℕ). get_or x 0 0) first_bytes ∙ byte_length t p.serial in
      sym (text_first (part b n 37) (omega (arith, serial_short t p.serial))) ∙ ap text_of first_bytes ∙ text_back t p.serial

pub exact_digits : ExactDigits
exact_digits = found_text

pub one_serial : OneSerial
one_serial b s t n e e' = sym (exact_digits b s n e) ∙ exact_digits b t n e'

-- 0417 and 417 are two serials, and never find the same card
pub never_both : (b : List ℕ) (n : ℕ) → lookup_of b (48 ∷ 52 ∷ 49 ∷ 55 ∷ []) ≡ accepted n → lookup_of b (52 ∷ 49 ∷ 55 ∷ []) ≡ accepted n → ⊥
never_both b n e e' = let h = ap length (one_serial b (48 ∷ 52 ∷ 49 ∷ 55 ∷ []) (52 ∷ 49 ∷ 55 ∷ []) n e e') in omega arith

-- ---- the digits of a card find it
module _ (b : List ℕ) (k : ℕ) (formed : well_formed b ≡ true) (l : k < (cards b).count) where
  e : List ℕ
  e = entry_at b (cards b) k

  z : Sized b
  z = formed_sized b formed

  fine : (entries_ok b (cards b) && distinct b (cards b)) ≡ true
  unfolding well_formed
  fine = sym (section_lies b (cards b) (cards_lie b z)) ∙ and_right (sized b) (section_ok b (cards b)) (and_left (sized b && section_ok b (cards b)) (section_ok b (withdrawn b)) formed)

  holds : holds_serial e ≡ true
  unfolding entries_ok entry_ok e
  holds =
      let c = every_at (λ (k : ℕ). entry_ok Cards (entry_at b (cards b) k)) (cards b).count (and_left (entries_ok b (cards b)) (distinct b (cards b)) fine) k l in
      and_right (eqb (length (entry_at b (cards b) k)) 37) (holds_serial (entry_at b (cards b) k)) (and_left (eqb (length (entry_at b (cards b) k)) 37 && holds_serial (entry_at b (cards b) k)) (fields_ok (entry_at b (cards b) k)) c)

  thirteen : length (take 13 e) ≡ 13
  unfolding e entry_at
  thirteen = simp length-take (omega (arith, length_part b (place_of (cards b) k) 37 (omega (arith, z.whole))))

  first_holds : holds_serial (take 13 e) ≡ true
  first_holds = holds_first e ∙ holds

  same_text : text_of (take 13 e) ≡ text_of e
  unfolding holds_serial
  same_text = text_first e (leb-true _ _ (and_right (leb 1 (get_or e 0 0)) (leb (get_or e 0 0) 12) (and_left (leb 1 (get_or e 0 0) && leb (get_or e 0 0) 12) (every (λ (k : ℕ). place_ok (get_or e 0 0) k (get_or e (1 + k) 0)) 12) holds)))

  is_serial_lem : is_serial (text_of e) ≡ true
  is_serial_lem = ap is_serial (sym same_text) ∙ text_serial (take 13 e) thirteen first_holds

  own_bytes : serial_bytes (serial_of (text_of e)) ≡ serial_at b (cards b) k
  unfolding e
  own_bytes = ap (λ (t : List ℕ). serial_bytes (serial_of t)) (sym same_text) ∙ bytes_back (take 13 e) thirteen first_holds ∙ sym (serial_first b (cards b) k (omega arith))

  found_at : find_in b (cards b) (text_of e) ≡ k
  unfolding first_of distinct fresh
  found_at =
      let own = own_bytes in
      let d = every_at (fresh b (cards b)) (cards b).count (and_right (entries_ok b (cards b)) (distinct b (cards b)) fine) k l in
      find_lies b (cards b) (text_of e) (cards_lie b z)
      ∙ first_at (λ (i : ℕ). same (serial_at b (cards b) i) (serial_bytes (serial_of (text_of e)))) (cards b).count k l
      (rw own d) (ap (same (serial_at b (cards b) k)) own ∙ same_self (serial_at b (cards b) k))

  found : has b (withdrawn b) (text_of e) ≡ false → lookup_of b (text_of e) ≡ accepted (place_of (cards b) k)
  unfolding lookup_of seek_of has
  found kept = simp (is_serial_lem, formed, kept, found_at, lt-ltb k (cards b).count l)

pub every_card : EveryCard
unfolding e
every_card b k formed l kept = found b k formed l kept
