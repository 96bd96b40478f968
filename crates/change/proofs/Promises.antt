-- Demand 2 for the book: the statements of `specs/Promises`, proved.
use Prim.Native.Nat.{ℕ, ◌+◌, ◌*◌, ◌≤◌, ◌<◌}
use mathlib.Core.Path.{◌≡◌, refl, sym, ap, ◌∙◌}
use mathlib.Core.Bool.{Bool, true, false, not, ◌&&◌}
use mathlib.Core.List.{List, []}
use native.Mathlib.Nat.{add-zero}
use native.Mathlib.Omega.{arith}
use lib.IntN.{ℤ, pos}
use lib.ListN.{length, get_or, take}
use lib.Dec.{eqb}
use borrow.Author.Tests.{lt-ltb, le-leb, eqb-true, eq-eqb}
use Rattle.serial.proofs.Every.{and_left, and_right, both, every_at}
use Rattle.serial.specs.Places.{put}
use Rattle.serial.proofs.Places.{front_put}
use Rattle.serial.specs.Serials.{is_serial, serial_of, serial_bytes}
use Rattle.card.specs.Fields.{fits_field, values_fit}
use Rattle.card.specs.Cards.{card_bytes, card_of}
use Rattle.serial.proofs.Serials.{length_bytes, bytes_hold}
use Rattle.cardbytes.proofs.RoundTrip.{length_card, twelve_places, new_card, card_back}
use Rattle.section.specs.declared.Kind.TheVariants.{Cards, Serials}
use Rattle.section.specs.Sections.{place_of, end_of, entry_at, serial_at, entry_ok, section_ok, find_in, has}
use Rattle.book.specs.Book.{cards, withdrawn, sized, Sized, well_formed}
use Rattle.book.specs.Answers.{Answer, accepted, ask}
use Rattle.lookup.specs.Lookup.{seek_of, lookup_of, card_part}
use Rattle.change.specs.Change.{with_entry, room_for, buffer_after, add_answer, added, withdraw_answer, after_withdraw}
use Rattle.change.specs.Promises.{CardAdded, SerialWithdrawn, AddKeeps, WithdrawKeeps}
use Rattle.section.specs.declared.Section.{Section}
use Rattle.section.proofs.Sections.{serial_first}
use Rattle.book.proofs.Sections.{sized_has, cards_lie, withdrawn_lie}
use Rattle.lookup.proofs.Answers.{placed}
use Rattle.change.proofs.Answers.{Room, Adds, adds, Withdraws, withdraws}
use Rattle.change.proofs.Entry.{Grown, grown}
use Rattle.change.proofs.Grown as G
use Rattle.change.proofs.Changes as C

-- ---- what two books that agree on a serial answer
-- the same tests and the same place
seek_same : (old new u : List ℕ) → has new (withdrawn new) u ≡ has old (withdrawn old) u → has new (cards new) u ≡ has old (cards old) u
    → (has old (cards old) u ≡ true → find_in new (cards new) u ≡ find_in old (cards old) u) → seek_of new u ≡ seek_of old u
unfolding seek_of
seek_same old new u w c p = by (has old (cards old) u) refl
  where
    by : (b : Bool) → has old (cards old) u ≡ b
        → ask (not (has new (withdrawn new) u)) 3 (ask (has new (cards new) u) 4 (accepted (2 + find_in new (cards new) u * 37)))
        ≡ ask (not (has old (withdrawn old) u)) 3 (ask (has old (cards old) u) 4 (accepted (2 + find_in old (cards old) u * 37)))
    by true e = simp (w, c, e, p e)
    by false e = simp (w, c, e)

lookup_same : (old new u : List ℕ) → well_formed old ≡ true → well_formed new ≡ true → (is_serial u ≡ true → seek_of new u ≡ seek_of old u) → lookup_of new u ≡ lookup_of old u
unfolding lookup_of
lookup_same old new u fo fn h = by (is_serial u) refl
  where
    by : (b : Bool) → is_serial u ≡ b → ask (is_serial u) 1 (ask (well_formed new) 2 (seek_of new u)) ≡ ask (is_serial u) 1 (ask (well_formed old) 2 (seek_of old u))
    by true e = simp (fo, fn, h e)
    by false e = simp e

-- a found card's bytes are its entry
card_entry : (b t : List ℕ) (k : ℕ) → lookup_of b t ≡ accepted (place_of (cards b) k) → card_part b t ≡ entry_at b (cards b) k
unfolding card_part entry_at
card_entry b t k e = simp e

refused_part : (b t : List ℕ) (r : ℕ) → eqb (lookup_of b t).number 0 ≡ false → card_part b t ≡ []
unfolding card_part
refused_part b t r e = simp e

-- with the same answer, and the same entries, a serial finds the same bytes
part_same : (old new u : List ℕ) → lookup_of new u ≡ lookup_of old u → ((k : ℕ) → k < (cards old).count → entry_at new (cards new) k ≡ entry_at old (cards old) k) → card_part new u ≡ card_part old u
part_same old new u e agree = by (eqb (lookup_of old u).number 0) refl
  where
    by : (b : Bool) → eqb (lookup_of old u).number 0 ≡ b → card_part new u ≡ card_part old u
    by false q = refused_part new u 0 (ap (λ (a : Answer). eqb a.number 0) e ∙ q) ∙ sym (refused_part old u 0 q)
    by true q =
        let n = (lookup_of old u).value in
        let here : lookup_of old u ≡ accepted n = λ i. record { number = eqb-true (lookup_of old u).number 0 q i; value = n } in
        let p = placed old u n here in
        let k = find_in old (cards old) u in
        let at : lookup_of old u ≡ accepted (place_of (cards old) k) = here ∙ ap accepted p.place in
        card_entry new u k (e ∙ at) ∙ agree k p.card ∙ sym (card_entry old u k at)

-- ---- one card more
module _ (old t : List ℕ) (f : List ℤ) (z : Sized old) (formed : well_formed old ≡ true) (few : (cards old).count < 1024)
    (tok : is_serial t ≡ true) (eight : length f ≡ 8) (fit : values_fit f ≡ true) (none : has old (cards old) t ≡ false) where
  x : List ℕ
  x = card_bytes (serial_of t) f

  new : List ℕ
  new = with_entry old (cards old) x

  long : length x ≡ 37
  unfolding x
  long = length_card (serial_of t) f (twelve_places t tok) eight

  g : Grown old new (cards old) x
  unfolding new
  g = grown old (cards old) x (omega arith) (omega (arith, z.whole))

  sizes : Sized new
  sizes = sized_has new (C.sized_after old new x g z few long)

  values : (k : ℕ) → k < 8 → fits_field k (get_or f k (pos 0)) ≡ true
  unfolding values_fit
  values = every_at _ 8 fit

  agree : (k : ℕ) → k < (cards old).count → entry_at new (cards new) k ≡ entry_at old (cards old) k
  agree = C.cards_agree old new x g z few long

  entry : entry_at new (cards new) (cards old).count ≡ x
  entry = C.card_last old new x g z few long

  count : (cards new).count ≡ (cards old).count + 1
  count = C.cards_count old new x g z few long

  mine : serial_at new (cards new) (cards old).count ≡ serial_bytes (serial_of t)
  unfolding x card_bytes
  mine =
      serial_first new (cards new) (cards old).count (omega arith) ∙ ap (take 13) entry
      ∙ lib.Seq.take_at (serial_bytes (serial_of t)) _ 13 (length_bytes t tok)

  card_fits : entry_ok Cards (entry_at new (cards new) (cards old).count) ≡ true
  unfolding entry_ok x
  card_fits = rw entry (new_card t f tok eight values)

  cards_fine : section_ok new (cards new) ≡ true
  unfolding well_formed
  cards_fine =
      G.grown_section old new (cards old) (cards new) (cards_lie old z) (cards_lie new sizes) refl agree count t tok none mine card_fits
      (and_right (sized old) (section_ok old (cards old)) (and_left (sized old && section_ok old (cards old)) (section_ok old (withdrawn old)) formed))

  others_agree : (k : ℕ) → k < (withdrawn old).count → entry_at new (withdrawn new) k ≡ entry_at old (withdrawn old) k
  others_agree = C.withdrawn_agree old new x g z few long

  w_count : (withdrawn new).count ≡ (withdrawn old).count
  w_count = C.withdrawn_count old new x g z few long

  fine : well_formed new ≡ true
  unfolding well_formed
  fine =
      both (both (C.sized_after old new x g z few long) cards_fine)
      (G.moved_section old new (withdrawn old) (withdrawn new) (withdrawn_lie old z) (withdrawn_lie new sizes) refl others_agree w_count
      ∙ and_right (sized old && section_ok old (cards old)) (section_ok old (withdrawn old)) formed)

  w_has : (u : List ℕ) → has new (withdrawn new) u ≡ has old (withdrawn old) u
  w_has = G.moved_has old new (withdrawn old) (withdrawn new) (withdrawn_lie old z) (withdrawn_lie new sizes) refl others_agree w_count

  c_find : find_in new (cards new) t ≡ (cards old).count
  c_find = G.grown_find old new (cards old) (cards new) (cards_lie old z) (cards_lie new sizes) refl agree count t tok none mine

  c_has : has new (cards new) t ≡ true
  c_has = G.grown_has old new (cards old) (cards new) (cards_lie old z) (cards_lie new sizes) refl agree count t tok none mine

  found : has old (withdrawn old) t ≡ false → lookup_of new t ≡ accepted (end_of (cards old))
  unfolding lookup_of seek_of
  found kept = simp (tok, fine, w_has t ∙ kept, c_has, c_find)

  bytes : has old (withdrawn old) t ≡ false → card_part new t ≡ card_bytes (serial_of t) f
  unfolding x
  bytes kept = card_entry new t (cards old).count (found kept) ∙ entry

  answers : (u : List ℕ) → (u ≡ t → ⊥) → lookup_of new u ≡ lookup_of old u
  answers u ne =
      lookup_same old new u formed fine (λ oku. seek_same old new u (w_has u)
      (G.other_has old new (cards old) (cards new) (cards_lie old z) (cards_lie new sizes) refl agree count t tok none mine u oku ne)
      (G.other_find old new (cards old) (cards new) (cards_lie old z) (cards_lie new sizes) refl agree count t tok none mine u oku ne))

  card_added : CardAdded old (with_entry old (cards old) (card_bytes (serial_of t) f)) t f
  unfolding new x lookup_of seek_of
  card_added =
      record {
        formed = fine;
        found = found;
        bytes = bytes;
        fields = λ kept. ap card_of (bytes kept) ∙ card_back (serial_of t) f (twelve_places t tok) eight values;
        still = λ w. simp (tok, fine, w_has t ∙ w);
        others = record { answer = answers; card = λ u ne. part_same old new u (answers u ne) agree };
        cards_kept = record { each = agree; count = count };
        withdrawn_kept = record { each = others_agree; count = w_count ∙ sym (add-zero (withdrawn old).count) };
      }

-- ---- one withdrawn serial more
module _ (old t : List ℕ) (z : Sized old) (formed : well_formed old ≡ true) (few : (withdrawn old).count < 512) (tok : is_serial t ≡ true) (none : has old (withdrawn old) t ≡ false) where
  y : List ℕ
  y = serial_bytes (serial_of t)

  after : List ℕ
  after = with_entry old (withdrawn old) y

  thirteen : length y ≡ 13
  unfolding y
  thirteen = length_bytes t tok

  gw : Grown old after (withdrawn old) y
  unfolding after
  gw = grown old (withdrawn old) y (omega arith) (omega (arith, z.whole))

  sized_then : Sized after
  sized_then = sized_has after (C.sized_withdrawn old after y gw z few thirteen)

  cards_stay : (k : ℕ) → k < (cards old).count → entry_at after (cards after) k ≡ entry_at old (cards old) k
  cards_stay = C.cards_kept old after y gw z few thirteen

  stay_count : (cards after).count ≡ (cards old).count
  stay_count = C.cards_count_kept old after y gw z few thirteen

  serials_agree : (k : ℕ) → k < (withdrawn old).count → entry_at after (withdrawn after) k ≡ entry_at old (withdrawn old) k
  serials_agree = C.withdrawn_kept old after y gw z few thirteen

  more : (withdrawn after).count ≡ (withdrawn old).count + 1
  more = C.withdrawn_more old after y gw z few thirteen

  last : entry_at after (withdrawn after) (withdrawn old).count ≡ y
  last = C.serial_last old after y gw z few thirteen

  own : serial_at after (withdrawn after) (withdrawn old).count ≡ serial_bytes (serial_of t)
  unfolding y
  own =
      serial_first after (withdrawn after) (withdrawn old).count (omega arith) ∙ ap (take 13) last
      ∙ lib.Seq.take_all 13 (serial_bytes (serial_of t)) (omega (arith, length_bytes t tok))

  serial_fits : entry_ok Serials (entry_at after (withdrawn after) (withdrawn old).count) ≡ true
  unfolding entry_ok y
  serial_fits = rw last (bytes_hold t tok (serial_bytes (serial_of t)) (λ k l. refl))

  kept_fine : well_formed after ≡ true
  unfolding well_formed
  kept_fine =
      both (both (C.sized_withdrawn old after y gw z few thirteen)
      (G.moved_section old after (cards old) (cards after) (cards_lie old z) (cards_lie after sized_then) refl cards_stay stay_count
      ∙ and_right (sized old) (section_ok old (cards old)) (and_left (sized old && section_ok old (cards old)) (section_ok old (withdrawn old)) formed)))
      (G.grown_section old after (withdrawn old) (withdrawn after) (withdrawn_lie old z) (withdrawn_lie after sized_then) refl serials_agree more t tok none own serial_fits
      (and_right (sized old && section_ok old (cards old)) (section_ok old (withdrawn old)) formed))

  left : (u : List ℕ) → (u ≡ t → ⊥) → lookup_of after u ≡ lookup_of old u
  left u ne =
      lookup_same old after u formed kept_fine (λ oku. seek_same old after u
      (G.other_has old after (withdrawn old) (withdrawn after) (withdrawn_lie old z) (withdrawn_lie after sized_then) refl serials_agree more t tok none own u oku ne)
      (G.moved_has old after (cards old) (cards after) (cards_lie old z) (cards_lie after sized_then) refl cards_stay stay_count u)
      (λ h. G.moved_find old after (cards old) (cards after) (cards_lie old z) (cards_lie after sized_then) refl cards_stay stay_count u))

  serial_withdrawn : SerialWithdrawn old (with_entry old (withdrawn old) (serial_bytes (serial_of t))) t
  unfolding after y lookup_of seek_of
  serial_withdrawn =
      record {
        formed = kept_fine;
        gone = simp (tok, kept_fine, G.grown_has old after (withdrawn old) (withdrawn after) (withdrawn_lie old z) (withdrawn_lie after sized_then) refl serials_agree more t tok none own);
        others = record { answer = left; card = λ u ne. part_same old after u (left u ne) cards_stay };
        cards_kept = record { each = cards_stay; count = stay_count ∙ sym (add-zero (cards old).count) };
        withdrawn_kept = record { each = serials_agree; count = more };
        last = last;
      }

-- ---- as the contracts say it: the first bytes of the buffer, by the answer
front : (b n : List ℕ) (m : ℕ) → length n ≡ m → m ≤ length b → take m (put b 0 n) ≡ n
front b n m e l =
    let h : 0 + length n ≡ m = omega arith in
    ap (λ (k : ℕ). take k (put b 0 n)) (sym h) ∙ front_put b n 0 (omega arith)

room_value : (b : List ℕ) (s : Section) (limit : ℕ) (t : List ℕ) (room : ℕ) → Room b s limit t room → (room_for b s limit t room).value ≡ length b + s.size
unfolding room_for
room_value b s limit t room r = simp (r.new, lt-ltb _ _ r.few, le-leb _ _ r.fits)

add_value : (b : List ℕ) (used : ℕ) (t : List ℕ) (f : List ℤ) → Adds b used t f → (add_answer b used t f).value ≡ length (take used b) + 37
unfolding add_answer
add_value b used t f a = simp (a.serial, a.values, a.book.test) (room_value (take used b) (cards (take used b)) 1024 t (length b) a.room)

pub add_keeps : AddKeeps
unfolding added buffer_after
add_keeps b used t f eight e =
    let a = adds b used t f e in
    let old = take used b in
    let x = card_bytes (serial_of t) f in
    let z = a.book.sizes in
    let long = length_card (serial_of t) f (twelve_places t a.serial) eight in
    let n : length (with_entry old (cards old) x) ≡ length old + 37 = (grown old (cards old) x (omega arith) (omega (arith, z.whole))).longer ∙ ap (λ (k : ℕ). length old + k) long in
    let v : (add_answer b used t f).value ≡ length old + 37 = add_value b used t f a in
    rw (eq-eqb _ _ e, v, front b (with_entry old (cards old) x) (length old + 37) n a.room.fits)
    (card_added old t f z a.book.formed a.room.few a.serial eight a.values a.room.new)

withdraw_value : (b : List ℕ) (used : ℕ) (t : List ℕ) → Withdraws b used t → (withdraw_answer b used t).value ≡ length (take used b) + 13
unfolding withdraw_answer
withdraw_value b used t a = simp (a.serial, a.book.test) (room_value (take used b) (withdrawn (take used b)) 512 t (length b) a.room)

pub withdraw_keeps : WithdrawKeeps
unfolding after_withdraw buffer_after
withdraw_keeps b used t e =
    let a = withdraws b used t e in
    let old = take used b in
    let y = serial_bytes (serial_of t) in
    let z = a.book.sizes in
    let n : length (with_entry old (withdrawn old) y) ≡ length old + 13 = (grown old (withdrawn old) y (omega arith) (omega (arith, z.whole))).longer ∙ ap (λ (k : ℕ). length old + k) (length_bytes t a.serial) in
    rw (eq-eqb _ _ e, withdraw_value b used t a, front b (with_entry old (withdrawn old) y) (length old + 13) n a.room.fits)
    (serial_withdrawn old t z a.book.formed a.room.few a.serial a.room.new)
