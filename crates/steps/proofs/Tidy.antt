-- The shorter sequence is tidy, and its holds, commits, blocks and resets stand in the order in which they were accepted.
use mathlib.Core.Path.{◌≡◌, refl, ap, ap₂, sym, ◌∙◌}
use mathlib.Core.Bool.{Bool, true, false, cond}
use mathlib.Core.List.{List, [], ◌∷◌, ◌++◌}
use mathlib.Core.Option.{Option, none, some}
use Rattle.steps.specs.Answers.{refused, accepted}
use Rattle.steps.specs.Port.{Port, port0, port1, on, put_on, on_both, if_same}
use Rattle.steps.specs.Parts.{Parts}
use Rattle.steps.specs.Module.{edit, commit, drop_card, hold, read, Step, at_port, block, reset, State, Outcome, step}
use Rattle.steps.specs.Shorter.{struck_if, struck, reads_ahead, read_each, moved, Fate, stays_open, will_commit, will_drop, Act, edit_each, steps_of, fate, Drafts, drawn_edit, drawn}
use Rattle.steps.specs.Tidy.{Accepted, ends, strikes, stays, NoCard, TidyBehind, ends_later, landmarks, InOrder}
use Rattle.steps.proofs.Outcomes.{zero_one}
use Rattle.steps.proofs.Cards.{moved_cards, drawn_cards}

module _ (P : Parts) where
  -- ---- pass 1 strikes out what is refused

  struck_by : (x : Step P) (xs : List (Step P)) (s : State P) (o : Outcome P) → step P x s ≡ o → ((t : State P) → Accepted P xs t (struck P xs t)) →
      Accepted P (x ∷ xs) s (struck_if P o x s (struck P xs))
  struck_by x xs s (refused n) e ih = strikes e (ih s)
  struck_by x xs s (accepted r) e ih = stays e (ih r.1)

  accepted_stay : (xs : List (Step P)) (s : State P) → Accepted P xs s (struck P xs s)
  accepted_stay [] s = ends
  accepted_stay (x ∷ xs) s = struck_by x xs s (step P x s) refl (accepted_stay xs)

  -- and with it the steps by a port that is not 0 or 1

  abbrev Known : List (Step P) → Type 0
  Known [] = Unit {0}
  Known (at_port none op ∷ r) = ⊥
  Known (at_port (some p) op ∷ r) = Known r
  Known (block b ∷ r) = Known r
  Known (reset k ∷ r) = Known r

  known_if : (x : Step P) (s : State P) (o : Outcome P) (rest : State P → List (Step P)) → ((t : State P) → Known (rest t)) → ((r : List (Step P)) → Known r → Known (x ∷ r)) →
      Known (struck_if P o x s rest)
  known_if x s (refused n) rest ih k = ih s
  known_if x s (accepted r) rest ih k = k (rest r.1) (ih r.1)

  known : (xs : List (Step P)) (s : State P) → Known (struck P xs s)
  known [] s = tt
  known (at_port none op ∷ xs) s = known xs s
  known (at_port (some p) op ∷ xs) s = known_if (at_port (some p) op) s (step P (at_port (some p) op) s) (struck P xs) (known xs) (λ r k. k)
  known (block b ∷ xs) s = known_if (block b) s (step P (block b) s) (struck P xs) (known xs) (λ r k. k)
  known (reset t ∷ xs) s = known_if (reset t) s (step P (reset t) s) (struck P xs) (known xs) (λ r k. k)

  -- ---- pass 2 puts each read behind a hold of its own port

  abbrev Behind : Option Port → List (Step P) → Type 0
  Behind h [] = Unit {0}
  Behind h (at_port none op ∷ r) = ⊥
  Behind h (at_port (some p) (edit e) ∷ r) = Behind none r
  Behind h (at_port (some p) commit ∷ r) = Behind none r
  Behind h (at_port (some p) drop_card ∷ r) = Behind none r
  Behind h (at_port (some p) (hold k) ∷ r) = Behind (some p) r
  Behind h (at_port (some p) (read a) ∷ r) = (h ≡ some p) × Behind h r
  Behind h (block b ∷ r) = Behind none r
  Behind h (reset k ∷ r) = Behind none r

  weaken : (h : Option Port) (r : List (Step P)) → Behind none r → Behind h r
  weaken h [] b = tt
  weaken h (at_port none op ∷ r) b = b
  weaken h (at_port (some p) (edit e) ∷ r) b = b
  weaken h (at_port (some p) commit ∷ r) b = b
  weaken h (at_port (some p) drop_card ∷ r) b = b
  weaken h (at_port (some p) (hold k) ∷ r) b = b
  weaken h (at_port (some p) (read a) ∷ r) b = let e = b.0 in zero_one cc
  weaken h (block c ∷ r) b = b
  weaken h (reset k ∷ r) b = b

  reads_behind : (p : Port) (l : List P.Address) (r : List (Step P)) → Behind none r → Behind (some p) (read_each P p l r)
  reads_behind p [] r b = weaken (some p) r b
  reads_behind p (a ∷ l) r b = (refl, reads_behind p l r b)

  moved_behind : (xs : List (Step P)) → Known xs → Behind none (moved P xs)
  moved_behind [] k = tt
  moved_behind (at_port none op ∷ r) k = k
  moved_behind (at_port (some p) (edit e) ∷ r) k = moved_behind r k
  moved_behind (at_port (some p) commit ∷ r) k = moved_behind r k
  moved_behind (at_port (some p) drop_card ∷ r) k = moved_behind r k
  moved_behind (at_port (some p) (hold t) ∷ r) k = reads_behind p (reads_ahead P p r) (moved P r) (moved_behind r k)
  moved_behind (at_port (some p) (read a) ∷ r) k = moved_behind r k
  moved_behind (block b ∷ r) k = moved_behind r k
  moved_behind (reset t ∷ r) k = moved_behind r k

  -- ---- pass 3 leaves an edit by itself only where its card is still open at the end

  edit_no_card : (p q : Port) (e : P.Edit) (f : Fate) (go : Drafts P → List (Act P)) → ((k : Drafts P) → NoCard P p (go k)) → (k : Drafts P) → NoCard P p (drawn_edit P f q e go k)
  edit_no_card p q e stays_open go ih k = ih k
  edit_no_card p q e will_commit go ih k = ih (put_on q (on k q ++ (e ∷ [])) k)
  edit_no_card p q e will_drop go ih k = ih k

  no_card : (xs : List (Step P)) (p : Port) → fate P p xs ≡ stays_open → (k : Drafts P) → NoCard P p (drawn P xs k)
  no_card [] p f k = tt
  no_card (at_port none op ∷ r) p f k = no_card r p f k
  no_card (at_port (some q) (edit e) ∷ r) p f k = edit_no_card p q e (fate P q r) (drawn P r) (no_card r p f) k
  no_card (at_port (some port0) commit ∷ r) port0 f k = zero_one cc
  no_card (at_port (some port0) commit ∷ r) port1 f k = no_card r port1 f (put_on port0 [] k)
  no_card (at_port (some port1) commit ∷ r) port0 f k = no_card r port0 f (put_on port1 [] k)
  no_card (at_port (some port1) commit ∷ r) port1 f k = zero_one cc
  no_card (at_port (some port0) drop_card ∷ r) port0 f k = zero_one cc
  no_card (at_port (some port0) drop_card ∷ r) port1 f k = no_card r port1 f (put_on port0 [] k)
  no_card (at_port (some port1) drop_card ∷ r) port0 f k = no_card r port0 f (put_on port1 [] k)
  no_card (at_port (some port1) drop_card ∷ r) port1 f k = zero_one cc
  no_card (at_port (some q) (hold t) ∷ r) p f k = no_card r p f k
  no_card (at_port (some q) (read a) ∷ r) p f k = no_card r p f k
  no_card (block b ∷ r) p f k = no_card r p f k
  no_card (reset t ∷ r) p f k = no_card r p f k

  edit_tidy : (p : Port) (e : P.Edit) (r : List (Step P)) (h : Option Port) (f : Fate) → fate P p r ≡ f → ((h : Option Port) (k : Drafts P) → TidyBehind P h (drawn P r k)) →
      (k : Drafts P) → TidyBehind P h (drawn_edit P f p e (drawn P r) k)
  edit_tidy p e r h stays_open q ih k = (no_card r p q k, ih none k)
  edit_tidy p e r h will_commit q ih k = ih h (put_on p (on k p ++ (e ∷ [])) k)
  edit_tidy p e r h will_drop q ih k = ih h k

  drawn_tidy : (xs : List (Step P)) (h : Option Port) → Behind h xs → (k : Drafts P) → TidyBehind P h (drawn P xs k)
  drawn_tidy [] h b k = tt
  drawn_tidy (at_port none op ∷ r) h b k = b
  drawn_tidy (at_port (some p) (edit e) ∷ r) h b k = edit_tidy p e r h (fate P p r) refl (λ h'. drawn_tidy r h' (weaken h' r b)) k
  drawn_tidy (at_port (some p) commit ∷ r) h b k = drawn_tidy r none b (put_on p [] k)
  drawn_tidy (at_port (some p) drop_card ∷ r) h b k = drawn_tidy r h (weaken h r b) (put_on p [] k)
  drawn_tidy (at_port (some p) (hold t) ∷ r) h b k = drawn_tidy r (some p) b k
  drawn_tidy (at_port (some p) (read a) ∷ r) h b k = (b.0, drawn_tidy r h b.1 k)
  drawn_tidy (block c ∷ r) h b k = drawn_tidy r none b k
  drawn_tidy (reset t ∷ r) h b k = drawn_tidy r none b k

  -- ---- neither pass 2 nor pass 3 moves a hold, a commit, a block, a reset, or what was done on a card still open at the end

  reads_end : (p q : Port) (l : List P.Address) (r : List (Step P)) → ends_later P p (read_each P q l r) ≡ ends_later P p r
  reads_end p q [] r = refl
  reads_end p q (a ∷ l) r = reads_end p q l r

  moved_ends : (xs : List (Step P)) (p : Port) → ends_later P p (moved P xs) ≡ ends_later P p xs
  moved_ends [] p = refl
  moved_ends (at_port none op ∷ r) p = moved_ends r p
  moved_ends (at_port (some q) (edit e) ∷ r) p = moved_ends r p
  moved_ends (at_port (some q) commit ∷ r) p = ap (if_same p q true) (moved_ends r p)
  moved_ends (at_port (some q) drop_card ∷ r) p = ap (if_same p q true) (moved_ends r p)
  moved_ends (at_port (some q) (hold k) ∷ r) p = reads_end p q (reads_ahead P q r) (moved P r) ∙ moved_ends r p
  moved_ends (at_port (some q) (read a) ∷ r) p = moved_ends r p
  moved_ends (block b ∷ r) p = moved_ends r p
  moved_ends (reset k ∷ r) p = moved_ends r p

  reads_aside : (p : Port) (l : List P.Address) (r : List (Step P)) → landmarks P (read_each P p l r) ≡ landmarks P r
  reads_aside p [] r = refl
  reads_aside p (a ∷ l) r = reads_aside p l r

  moved_in_place : (xs : List (Step P)) → landmarks P (moved P xs) ≡ landmarks P xs
  moved_in_place [] = refl
  moved_in_place (at_port none op ∷ r) = moved_in_place r
  moved_in_place (at_port (some p) (edit e) ∷ r) = ap₂ (λ (b : Bool) (l : List (Step P)). cond b l (at_port (some p) (edit e) ∷ l)) (moved_ends r p) (moved_in_place r)
  moved_in_place (at_port (some p) commit ∷ r) = ap (λ (l : List (Step P)). at_port (some p) commit ∷ l) (moved_in_place r)
  moved_in_place (at_port (some p) drop_card ∷ r) = moved_in_place r
  moved_in_place (at_port (some p) (hold k) ∷ r) = ap (λ (l : List (Step P)). at_port (some p) (hold k) ∷ l) (reads_aside p (reads_ahead P p r) (moved P r) ∙ moved_in_place r)
  moved_in_place (at_port (some p) (read a) ∷ r) = moved_in_place r
  moved_in_place (block b ∷ r) = ap (λ (l : List (Step P)). block b ∷ l) (moved_in_place r)
  moved_in_place (reset k ∷ r) = ap (λ (l : List (Step P)). reset k ∷ l) (moved_in_place r)

  -- a card that is committed or dropped has that fate
  abbrev ended : Fate → Bool
  ended stays_open = false
  ended will_commit = true
  ended will_drop = true

  fate_ends : (xs : List (Step P)) (p : Port) → ends_later P p xs ≡ ended (fate P p xs)
  fate_ends [] p = refl
  fate_ends (at_port none op ∷ r) p = fate_ends r p
  fate_ends (at_port (some q) (edit e) ∷ r) p = fate_ends r p
  fate_ends (at_port (some port0) commit ∷ r) port0 = refl
  fate_ends (at_port (some port0) commit ∷ r) port1 = fate_ends r port1
  fate_ends (at_port (some port1) commit ∷ r) port0 = fate_ends r port0
  fate_ends (at_port (some port1) commit ∷ r) port1 = refl
  fate_ends (at_port (some port0) drop_card ∷ r) port0 = refl
  fate_ends (at_port (some port0) drop_card ∷ r) port1 = fate_ends r port1
  fate_ends (at_port (some port1) drop_card ∷ r) port0 = fate_ends r port0
  fate_ends (at_port (some port1) drop_card ∷ r) port1 = refl
  fate_ends (at_port (some q) (hold k) ∷ r) p = fate_ends r p
  fate_ends (at_port (some q) (read a) ∷ r) p = fate_ends r p
  fate_ends (block b ∷ r) p = fate_ends r p
  fate_ends (reset k ∷ r) p = fate_ends r p

  -- a card is drawn into one act: its edits stand before its commit
  edits_end : (p q : Port) (es : List P.Edit) (r : List (Step P)) → ends_later P p (edit_each P q es r) ≡ ends_later P p r
  edits_end p q [] r = refl
  edits_end p q (e ∷ es) r = edits_end p q es r

  commit_ends : (p : Port) (r : List (Step P)) → ends_later P p (at_port (some p) commit ∷ r) ≡ true
  commit_ends port0 r = refl
  commit_ends port1 r = refl

  edits_aside : (p : Port) (es : List P.Edit) (r : List (Step P)) → ends_later P p r ≡ true → landmarks P (edit_each P p es r) ≡ landmarks P r
  edits_aside p [] r h = refl
  edits_aside p (e ∷ es) r h =
      let l = landmarks P (edit_each P p es r) in
      ap (λ (b : Bool). cond b l (at_port (some p) (edit e) ∷ l)) (edits_end p p es r ∙ h) ∙ edits_aside p es r h

  -- where a port has no commit and no drop to come, pass 3 brings none
  edit_open : (p q : Port) (e : P.Edit) (f : Fate) (go : Drafts P → List (Act P)) → ((k : Drafts P) → ends_later P p (steps_of P (go k)) ≡ false) →
      (k : Drafts P) → ends_later P p (steps_of P (drawn_edit P f q e go k)) ≡ false
  edit_open p q e stays_open go ih k = ih k
  edit_open p q e will_commit go ih k = ih (put_on q (on k q ++ (e ∷ [])) k)
  edit_open p q e will_drop go ih k = ih k

  drawn_open : (xs : List (Step P)) (p : Port) → fate P p xs ≡ stays_open → (k : Drafts P) → ends_later P p (steps_of P (drawn P xs k)) ≡ false
  drawn_open [] p f k = refl
  drawn_open (at_port none op ∷ r) p f k = drawn_open r p f k
  drawn_open (at_port (some q) (edit e) ∷ r) p f k = edit_open p q e (fate P q r) (drawn P r) (drawn_open r p f) k
  drawn_open (at_port (some port0) commit ∷ r) port0 f k = zero_one cc
  drawn_open (at_port (some port0) commit ∷ r) port1 f k = edits_end port1 port0 k.on0 (at_port (some port0) commit ∷ steps_of P (drawn P r (put_on port0 [] k))) ∙ drawn_open r port1 f (put_on port0 [] k)
  drawn_open (at_port (some port1) commit ∷ r) port0 f k = edits_end port0 port1 k.on1 (at_port (some port1) commit ∷ steps_of P (drawn P r (put_on port1 [] k))) ∙ drawn_open r port0 f (put_on port1 [] k)
  drawn_open (at_port (some port1) commit ∷ r) port1 f k = zero_one cc
  drawn_open (at_port (some port0) drop_card ∷ r) port0 f k = zero_one cc
  drawn_open (at_port (some port0) drop_card ∷ r) port1 f k = drawn_open r port1 f (put_on port0 [] k)
  drawn_open (at_port (some port1) drop_card ∷ r) port0 f k = drawn_open r port0 f (put_on port1 [] k)
  drawn_open (at_port (some port1) drop_card ∷ r) port1 f k = zero_one cc
  drawn_open (at_port (some q) (hold t) ∷ r) p f k = drawn_open r p f k
  drawn_open (at_port (some q) (read a) ∷ r) p f k = drawn_open r p f k
  drawn_open (block b ∷ r) p f k = drawn_open r p f k
  drawn_open (reset t ∷ r) p f k = drawn_open r p f k

  edit_in_place : (p : Port) (e : P.Edit) (r : List (Step P)) (f : Fate) → fate P p r ≡ f → ((k : Drafts P) → landmarks P (steps_of P (drawn P r k)) ≡ landmarks P r) →
      (k : Drafts P) → landmarks P (steps_of P (drawn_edit P f p e (drawn P r) k)) ≡ cond (ended f) (landmarks P r) (at_port (some p) (edit e) ∷ landmarks P r)
  edit_in_place p e r stays_open q ih k =
      ap₂ (λ (b : Bool) (l : List (Step P)). cond b l (at_port (some p) (edit e) ∷ l)) (drawn_open r p q k) (ih k)
  edit_in_place p e r will_commit q ih k = ih (put_on p (on k p ++ (e ∷ [])) k)
  edit_in_place p e r will_drop q ih k = ih k

  drawn_in_place : (xs : List (Step P)) (k : Drafts P) → landmarks P (steps_of P (drawn P xs k)) ≡ landmarks P xs
  drawn_in_place [] k = refl
  drawn_in_place (at_port none op ∷ r) k = drawn_in_place r k
  drawn_in_place (at_port (some p) (edit e) ∷ r) k =
      edit_in_place p e r (fate P p r) refl (drawn_in_place r) k
      ∙ ap (λ (b : Bool). cond b (landmarks P r) (at_port (some p) (edit e) ∷ landmarks P r)) (sym (fate_ends r p))
  drawn_in_place (at_port (some p) commit ∷ r) k =
      edits_aside p (on k p) (at_port (some p) commit ∷ steps_of P (drawn P r (put_on p [] k))) (commit_ends p (steps_of P (drawn P r (put_on p [] k))))
      ∙ ap (λ (l : List (Step P)). at_port (some p) commit ∷ l) (drawn_in_place r (put_on p [] k))
  drawn_in_place (at_port (some p) drop_card ∷ r) k = drawn_in_place r (put_on p [] k)
  drawn_in_place (at_port (some p) (hold t) ∷ r) k = ap (λ (l : List (Step P)). at_port (some p) (hold t) ∷ l) (drawn_in_place r k)
  drawn_in_place (at_port (some p) (read a) ∷ r) k = drawn_in_place r k
  drawn_in_place (block b ∷ r) k = ap (λ (l : List (Step P)). block b ∷ l) (drawn_in_place r k)
  drawn_in_place (reset t ∷ r) k = ap (λ (l : List (Step P)). reset t ∷ l) (drawn_in_place r k)

  pub in_order : (s : State P) (xs : List (Step P)) → InOrder P s xs
  in_order s xs =
      let ys = struck P xs s in
      record {
        accepted_stay = accepted_stay xs s;
        tidy = drawn_tidy (moved P ys) none (moved_behind ys (known xs s)) (on_both []);
        in_place = drawn_in_place (moved P ys) (on_both []) ∙ moved_in_place ys;
        same_cards = λ p. drawn_cards P (moved P ys) p ∙ moved_cards P ys p [];
      }
