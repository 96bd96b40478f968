-- A serial stands in a section exactly when one of the section's entries has its digits.
use Prim.Native.Nat.{ℕ, ◌+◌, ◌≤◌, ◌<◌}
use mathlib.Core.Path.{◌≡◌, refl, sym, ap, ◌∙◌}
use mathlib.Core.Bool.{Bool, true, false, not, ◌&&◌, false≢true}
use mathlib.Core.List.{List}
use native.Mathlib.Omega.{arith}
use lib.Dec.{leb, ltb, eqb}
use lib.ListN.{length, get_or, take, length-take}
use borrow.Author.Tests.{ltb-true, ltb-false, leb-true, not-true}
use Rattle.serial.specs.Every.{every}
use Rattle.serial.specs.Serials.{is_serial, serial_of, serial_bytes, place_ok, holds_serial, text_of}
use Rattle.serial.proofs.Every.{every_at, first_all, first_passes, and_left, and_right}
use Rattle.serial.proofs.Places.{length_part, row_fits}
use Rattle.serial.proofs.Serials.{length_bytes, text_back, bytes_back}
use Rattle.card.specs.Cards.{fields_ok}
use Rattle.section.specs.declared.Kind.TheVariants.{Cards, Serials}
use Rattle.section.specs.declared.Section.{Section}
use Rattle.section.specs.Sections.{place_of, Lies, entry_at, serial_at, entry_ok, entries_ok, same, distinct, section_ok, first_of, find_in, has}
use Rattle.section.proofs.Sections.{same_self, same_is, serial_first, section_lies, find_lies}
use Rattle.book.specs.Book.{cards, withdrawn, sized, well_formed}
use Rattle.book.specs.Answers.{Answer, refused}
use Rattle.lookup.specs.Lookup.{seek_of, lookup_of}
use Rattle.lookup.specs.Promises.{StandsIn, Exactly, ExactlyStands, ExactlyWithdrawn}
use Rattle.book.proofs.Sections.{formed_sized, cards_lie, withdrawn_lie}
use Rattle.lookup.proofs.Promises.{text_first, holds_first}

-- ---- a section each of whose entries holds a serial
module _ (b : List ℕ) (s : Section) (lie : Lies b s) (held : (k : ℕ) → k < s.count → holds_serial (entry_at b s k) ≡ true) where
  thirteen : (k : ℕ) → k < s.count → length (take 13 (entry_at b s k)) ≡ 13
  unfolding entry_at
  thirteen k l =
      let fits = row_fits s.base s.size {j = k} {n = s.count} l in
      simp length-take (omega (arith, lie.wide, length_part b (place_of s k) s.size (omega (arith, fits, lie.inside))))

  twelve : (k : ℕ) → k < s.count → get_or (entry_at b s k) 0 0 ≤ 12
  unfolding holds_serial
  twelve k l =
      let e = entry_at b s k in
      let x = leb 1 (get_or e 0 0) in
      let y = leb (get_or e 0 0) 12 in
      let q = every (λ (i : ℕ). place_ok (get_or e 0 0) i (get_or e (1 + i) 0)) 12 in
      leb-true _ _ (and_right x y (and_left (x && y) q (held k l)))

  module _ (t : List ℕ) (tok : is_serial t ≡ true) where
    key : List ℕ
    key = serial_bytes (serial_of t)

    -- an entry with the 13 bytes of t has its digits ..
    digits_of : (k : ℕ) → k < s.count → same (serial_at b s k) key ≡ true → text_of (entry_at b s k) ≡ t
    unfolding key
    digits_of k l e =
        let q : take 13 (entry_at b s k) ≡ serial_bytes (serial_of t) = sym (serial_first b s k lie.wide) ∙ same_is (serial_at b s k) (serial_bytes (serial_of t)) (ap length (serial_first b s k lie.wide) ∙ thirteen k l) (length_bytes t tok) e in
        sym (text_first (entry_at b s k) (twelve k l)) ∙ ap text_of q ∙ text_back t tok

    -- .. and one with its digits has those bytes
    bytes_of : (k : ℕ) → k < s.count → text_of (entry_at b s k) ≡ t → same (serial_at b s k) key ≡ true
    unfolding key
    bytes_of k l e =
        let own : serial_at b s k ≡ serial_bytes (serial_of t) =
        serial_first b s k lie.wide
        ∙ sym (bytes_back (take 13 (entry_at b s k)) (thirteen k l) (holds_first (entry_at b s k) ∙ held k l))
        ∙ ap (λ (x : List ℕ). serial_bytes (serial_of x)) (text_first (entry_at b s k) (twelve k l) ∙ e) in
        ap (λ (x : List ℕ). same x (serial_bytes (serial_of t))) own ∙ same_self (serial_bytes (serial_of t))

    found : has b s t ≡ true → StandsIn b s t
    unfolding has key first_of
    found h =
        let f = find_lies b s t lie in
        let l : find_in b s t < s.count = ltb-true _ _ h in
        let p = first_passes (λ (k : ℕ). same (serial_at b s k) (serial_bytes (serial_of t))) s.count (rw f at l) in
        record { entry = find_in b s t; here = l; digits = digits_of (find_in b s t) l (ap (λ (k : ℕ). same (serial_at b s k) (serial_bytes (serial_of t))) f ∙ p) }

    finds : StandsIn b s t → has b s t ≡ true
    unfolding has key first_of
    finds w = by (ltb (find_in b s t) s.count) refl
      where
        by : (x : Bool) → ltb (find_in b s t) s.count ≡ x → ltb (find_in b s t) s.count ≡ true
        by true e = e
        by false e =
            let n = rw (find_lies b s t lie) at (ltb-false (find_in b s t) s.count e) in
            let no = every_at (λ (k : ℕ). not (same (serial_at b s k) (serial_bytes (serial_of t)))) s.count (first_all (λ (k : ℕ). same (serial_at b s k) (serial_bytes (serial_of t))) s.count n) w.entry w.here in
            absurd (false≢true (sym (not-true _ no) ∙ bytes_of w.entry w.here w.digits))

    stands : Exactly (has b s t ≡ true) (StandsIn b s t)
    stands = record { to = found; from = finds }

-- ---- both sections of a well-formed book are such
module _ (b : List ℕ) (formed : well_formed b ≡ true) where
  cards_held : (k : ℕ) → k < (cards b).count → holds_serial (entry_at b (cards b) k) ≡ true
  unfolding well_formed entries_ok entry_ok
  cards_held k l =
      let z = formed_sized b formed in
      let fine = sym (section_lies b (cards b) (cards_lie b z)) ∙ and_right (sized b) (section_ok b (cards b)) (and_left (sized b && section_ok b (cards b)) (section_ok b (withdrawn b)) formed) in
      let c = every_at (λ (k : ℕ). entry_ok Cards (entry_at b (cards b) k)) (cards b).count (and_left (entries_ok b (cards b)) (distinct b (cards b)) fine) k l in
      let e = entry_at b (cards b) k in
      and_right (eqb (length e) 37) (holds_serial e) (and_left (eqb (length e) 37 && holds_serial e) (fields_ok e) c)

  withdrawn_held : (k : ℕ) → k < (withdrawn b).count → holds_serial (entry_at b (withdrawn b) k) ≡ true
  unfolding well_formed entries_ok entry_ok
  withdrawn_held k l =
      let z = formed_sized b formed in
      let fine = sym (section_lies b (withdrawn b) (withdrawn_lie b z)) ∙ and_right (sized b && section_ok b (cards b)) (section_ok b (withdrawn b)) formed in
      every_at (λ (k : ℕ). entry_ok Serials (entry_at b (withdrawn b) k)) (withdrawn b).count (and_left (entries_ok b (withdrawn b)) (distinct b (withdrawn b)) fine) k l

pub exactly_stands : ExactlyStands
exactly_stands b t tok formed =
    let z = formed_sized b formed in
    (stands b (cards b) (cards_lie b z) (cards_held b formed) t tok, stands b (withdrawn b) (withdrawn_lie b z) (withdrawn_held b formed) t tok)

-- ---- 3
not_three : (b t : List ℕ) → is_serial t ≡ true → well_formed b ≡ true → has b (withdrawn b) t ≡ false → (y : Bool) → has b (cards b) t ≡ y → (lookup_of b t).number ≡ 3 → ⊥
unfolding lookup_of seek_of
not_three b t tok formed h true c e = let q : (lookup_of b t).number ≡ 0 = simp (tok, formed, h, c) in omega (arith, q, e)
not_three b t tok formed h false c e = let q : (lookup_of b t).number ≡ 4 = simp (tok, formed, h, c) in omega (arith, q, e)

three : (b t : List ℕ) → is_serial t ≡ true → well_formed b ≡ true → lookup_of b t ≡ refused 3 → has b (withdrawn b) t ≡ true
three b t tok formed e = by (has b (withdrawn b) t) refl
  where
    by : (x : Bool) → has b (withdrawn b) t ≡ x → has b (withdrawn b) t ≡ true
    by true h = h
    by false h = absurd (not_three b t tok formed h (has b (cards b) t) refl (ap (λ (a : Answer). a.number) e))

pub exactly_withdrawn : ExactlyWithdrawn
unfolding lookup_of seek_of
exactly_withdrawn b t tok formed =
    let w = (exactly_stands b t tok formed).1 in
    record { to = λ e. w.to (three b t tok formed e); from = λ i. simp (tok, formed, w.from i) }
