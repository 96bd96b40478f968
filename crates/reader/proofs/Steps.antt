-- The ways through a step, and the walk step by step: every card, every withdrawn serial, then the end.
use Prim.Native.Nat.{ℕ, zero, suc, ◌+◌, ◌*◌, ◌-◌, ◌<◌, ◌≤◌}
use mathlib.Core.Path.{◌≡◌, refl, sym, ap, ◌∙◌}
use mathlib.Core.Bool.{Bool, true, false, cond}
use mathlib.Core.List.{List}
use native.Mathlib.Omega.{arith}
use lib.Dec.{leb, ltb, eqb}
use lib.ListN.{length}
use borrow.Author.Tests.{lt-ltb, le-ltb, le-leb, eq-eqb, ne_eqb}
use Rattle.section.specs.Sections.{place_of, end_of}
use Rattle.book.specs.Book.{cards, withdrawn, well_formed}
use Rattle.book.proofs.Sections.{formed_sized}
use Rattle.std.specs.Prelude.{Option, Some, None}
use Rattle.reader.specs.declared.Entry.{Entry}
use Rattle.reader.specs.declared.Kind.{Kind}
use Rattle.reader.specs.declared.Kind.TheVariants.{Card, Withdrawn}
use Rattle.reader.specs.Walk.{Step, past_count, no_step, entry_step, step_at, step_after}

-- ---- the ways through a step
module _ (b : List ℕ) (at : ℕ) where
  abbrev here : ℕ
  here = past_count at (end_of (cards b))

  pub at_card : here < end_of (cards b) → entry_step Card 37 (length b) here ≡ step_at b at
  unfolding step_at
  at_card h = rw (lt-ltb here (end_of (cards b)) h) refl

  pub at_serial : end_of (cards b) ≤ here → here < end_of (withdrawn b) → entry_step Withdrawn 13 (length b) here ≡ step_at b at
  unfolding step_at
  at_serial h l = rw (le-ltb here (end_of (cards b)) h, lt-ltb here (end_of (withdrawn b)) l) refl

  pub at_end : end_of (cards b) ≤ here → end_of (withdrawn b) ≤ here → no_step here ≡ step_at b at
  unfolding step_at
  at_end h l = rw (le-ltb here (end_of (cards b)) h, le-ltb here (end_of (withdrawn b)) l) refl

-- ---- a step never goes back
went : (t : Bool) (kind : Kind) (size at : ℕ) → at ≤ (cond t (record { found = Some (record { kind = kind; at = at }); next = at + size }) (no_step at)).next
went true kind size at = omega arith
went false kind size at = omega arith

entry_on : (kind : Kind) (size len at : ℕ) → at ≤ (entry_step kind size len at).next
unfolding entry_step
entry_on kind size len at = went (leb (at + size) len) kind size at

one_on : (t u : Bool) (x y z : Step) (p : ℕ) → p ≤ x.next → p ≤ y.next → p ≤ z.next → p ≤ (cond t x (cond u y z)).next
one_on true u x y z p h i j = h
one_on false true x y z p h i j = i
one_on false false x y z p h i j = j

pub past_up : (t : Bool) (at : ℕ) → at ≤ cond t (at + 2) at
past_up true at = omega arith
past_up false at = omega arith

pub goes_on : (b : List ℕ) (at : ℕ) → at ≤ (step_at b at).next
unfolding step_at
goes_on b at =
    let e = end_of (cards b) in
    let p = past_count at e in
    let u : at ≤ p = past_up (eqb at e) at in
    let n : p ≤ (step_at b at).next = one_on (ltb p e) (ltb p (end_of (withdrawn b))) (entry_step Card 37 (length b) p) (entry_step Withdrawn 13 (length b) p) (no_step p) p
    (entry_on Card 37 (length b) p) (entry_on Withdrawn 13 (length b) p) (omega arith) in
    omega (arith, u, n)

-- nor does what it finds stand behind the reader: the place of the entry, and where there is none, that at which the reader stays
unfoldable pub stands : Step → ℕ
stands s = stood s.found s.next
  where
    stood : Option Entry → ℕ → ℕ
    stood (Some e) n = e.at
    stood None n = n

stands_at : (t : Bool) (kind : Kind) (size at : ℕ) → stands (cond t (record { found = Some (record { kind = kind; at = at }); next = at + size }) (no_step at)) ≡ at
unfolding stands
stands_at true kind size at = refl
stands_at false kind size at = refl

entry_stands : (kind : Kind) (size len at : ℕ) → stands (entry_step kind size len at) ≡ at
unfolding entry_step
entry_stands kind size len at = stands_at (leb (at + size) len) kind size at

one_stands : (t u : Bool) (x y z : Step) (p : ℕ) → stands x ≡ p → stands y ≡ p → stands z ≡ p → stands (cond t x (cond u y z)) ≡ p
one_stands true u x y z p h i j = h
one_stands false true x y z p h i j = i
one_stands false false x y z p h i j = j

pub not_back : (b : List ℕ) (at : ℕ) → at ≤ stands (step_at b at)
unfolding step_at
not_back b at =
    let e = end_of (cards b) in
    let p = past_count at e in
    let z = one_stands (ltb p e) (ltb p (end_of (withdrawn b))) (entry_step Card 37 (length b) p) (entry_step Withdrawn 13 (length b) p) (no_step p) p
    (entry_stands Card 37 (length b) p) (entry_stands Withdrawn 13 (length b) p) (stands_at false Card 37 p) in
    rw z (past_up (eqb at e) at)

-- ---- the walk through a book of the right size
there : (e : Kind) (size len at : ℕ) → at + size ≤ len → entry_step e size len at ≡ record { found = Some (record { kind = e; at = at }); next = at + size }
unfolding entry_step
there e size len at h = rw (le-leb (at + size) len h) refl

stays : (at end : ℕ) → (at ≡ end → ⊥) → past_count at end ≡ at
stays at end h = rw (ne_eqb at end h) refl

passes : (at end : ℕ) → at ≡ end → past_count at end ≡ at + 2
passes at end h = rw (eq-eqb at end h) refl

whole : (b : List ℕ) → well_formed b ≡ true → length b ≡ end_of (withdrawn b)
whole b e = (formed_sized b e).whole

-- the place at which step k is found
unfoldable pub place_after : List ℕ → ℕ → ℕ
place_after b zero = 2
place_after b (suc k) = (step_at b (place_after b k)).next

pub found_there : (b : List ℕ) (k : ℕ) → step_after b k ≡ step_at b (place_after b k)
unfolding step_after place_after
found_there b zero = refl
found_there b (suc k) = ap (λ (s : Step). step_at b s.next) (found_there b k)

module _ (b : List ℕ) (formed : well_formed b ≡ true) where
  abbrev n : ℕ
  n = (cards b).count

  abbrev m : ℕ
  m = (withdrawn b).count

  -- ---- cards
  card_fits : (k : ℕ) → k < n → k * 37 + 37 ≤ n * 37
  card_fits k h = omega arith

  card_step : (at k : ℕ) → k < n → at ≡ 2 + k * 37 → step_at b at ≡ record { found = Some (record { kind = Card; at = 2 + k * 37 }); next = 2 + (k + 1) * 37 }
  card_step at k h e =
      let d : (at ≡ end_of (cards b) → ⊥) = λ q. omega (arith, card_fits k h) in
      let s : past_count at (end_of (cards b)) ≡ at = stays at (end_of (cards b)) d in
      sym (at_card b at (omega (arith, s, card_fits k h)))
      ∙ ap (entry_step Card 37 (length b)) s
      ∙ there Card 37 (length b) at (omega (arith, whole b formed, card_fits k h))
      ∙ ap (λ (p : ℕ). record { found = Some (record { kind = Card; at = p }); next = p + 37 }) e
      ∙ ap (λ (q : ℕ). record { found = Some (record { kind = Card; at = 2 + k * 37 }); next = q }) (omega arith)

  after_cards : (k : ℕ) → k ≤ n → place_after b k ≡ 2 + k * 37
  unfolding place_after
  after_cards zero h = refl
  after_cards (suc k) h = ap (λ (s : Step). s.next) (card_step (place_after b k) k (omega arith) (after_cards k (omega arith))) ∙ omega arith

  pub cards_walked : (k : ℕ) → k < n → step_after b k ≡ record { found = Some (record { kind = Card; at = place_of (cards b) k }); next = place_of (cards b) (k + 1) }
  cards_walked k h = found_there b k ∙ card_step (place_after b k) k h (after_cards k (omega arith))

  -- ---- withdrawn serials: the first is found from the count, each later one from its place
  serial_step : (at j : ℕ) → j < m → past_count at (end_of (cards b)) ≡ 2 + n * 37 + 2 + j * 13 →
      step_at b at ≡ record { found = Some (record { kind = Withdrawn; at = place_of (withdrawn b) j }); next = place_of (withdrawn b) (j + 1) }
  serial_step at j h s =
      let fits : j * 13 + 13 ≤ m * 13 = omega arith in
      sym (at_serial b at (omega (arith, s)) (omega (arith, s, fits)))
      ∙ ap (entry_step Withdrawn 13 (length b)) s
      ∙ there Withdrawn 13 (length b) (2 + n * 37 + 2 + j * 13) (omega (arith, whole b formed, fits))
      ∙ ap (λ (q : ℕ). record { found = Some (record { kind = Withdrawn; at = 2 + n * 37 + 2 + j * 13 }); next = q }) (omega arith)

  -- where the reader is before withdrawn serial j: at the count before the first, and then at each one's place
  after_serials : (j : ℕ) → j ≤ m → past_count (place_after b (n + j)) (end_of (cards b)) ≡ 2 + n * 37 + 2 + j * 13
  unfolding place_after
  after_serials zero h =
      let z : n + 0 ≡ n = omega arith in
      passes (place_after b (n + 0)) (end_of (cards b)) (ap (place_after b) z ∙ after_cards n (omega arith)) ∙ omega (arith, ap (place_after b) z, after_cards n (omega arith))
  after_serials (suc j) h =
      let z : n + suc j ≡ suc (n + j) = omega arith in
      let step = serial_step (place_after b (n + j)) j (omega arith) (after_serials j (omega arith)) in
      let place : place_after b (n + suc j) ≡ 2 + n * 37 + 2 + (j + 1) * 13 = ap (place_after b) z ∙ ap (λ (s : Step). s.next) step in
      stays (place_after b (n + suc j)) (end_of (cards b)) (λ q. omega (arith, place)) ∙ place ∙ omega arith

  pub serials_walked : (j : ℕ) → j < m →
      step_after b (n + j) ≡ record { found = Some (record { kind = Withdrawn; at = place_of (withdrawn b) j }); next = place_of (withdrawn b) (j + 1) }
  serials_walked j h = found_there b (n + j) ∙ serial_step (place_after b (n + j)) j h (after_serials j (omega arith))

  -- ---- the end, where the reader stays
  ended : (at : ℕ) → past_count at (end_of (cards b)) ≡ end_of (withdrawn b) → step_at b at ≡ no_step (end_of (withdrawn b))
  ended at s = sym (at_end b at (omega (arith, s)) (omega (arith, s))) ∙ ap no_step s

  at_the_end : (d : ℕ) → past_count (place_after b (n + m + d)) (end_of (cards b)) ≡ end_of (withdrawn b)
  unfolding place_after
  at_the_end zero = let z : n + m + 0 ≡ n + m = omega arith in ap (λ (k : ℕ). past_count (place_after b k) (end_of (cards b))) z ∙ after_serials m (omega arith)
  at_the_end (suc d) =
      let z : n + m + suc d ≡ suc (n + m + d) = omega arith in
      let place : place_after b (n + m + suc d) ≡ end_of (withdrawn b) = ap (place_after b) z ∙ ap (λ (s : Step). s.next) (ended (place_after b (n + m + d)) (at_the_end d)) in
      stays (place_after b (n + m + suc d)) (end_of (cards b)) (λ q. omega (arith, place)) ∙ place

  pub none_left : (k : ℕ) → n + m ≤ k → step_after b k ≡ no_step (end_of (withdrawn b))
  none_left k h =
      let d = k - (n + m) in
      let z : n + m + d ≡ k = omega arith in
      found_there b k ∙ ap (λ (i : ℕ). step_at b (place_after b i)) (sym z) ∙ ended (place_after b (n + m + d)) (at_the_end d)
