-- Pass 2: with each read moved to just behind its hold, a sequence of which no step is refused runs as before.
use mathlib.Core.Path.{◌≡◌, refl, ap, sym, ◌∙◌}
use mathlib.Core.List.{List, [], ◌∷◌}
use mathlib.Core.Option.{none, some}
use Rattle.steps.specs.Answers.{OrRefusal, refused, accepted, and_then}
use Rattle.steps.specs.Port.{Port, port0, port1, PerPort, on, on_both, if_same}
use Rattle.steps.specs.Parts.{Parts}
use Rattle.steps.specs.Module.{edit, commit, drop_card, hold, read, Step, at_port, block, reset, State, with_held, fresh, Report, silent, commits, tells, closes, resets, did_edit, did_commit, did_drop, did_hold, did_read, did_block, did_reset, Done}
use Rattle.steps.specs.Run.{Run, with_refusal, with_report, follow, run}
use Rattle.steps.specs.Shorter.{reads_ahead, read_each, moved}
use Rattle.steps.proofs.Outcomes.{never, report_refusals}

module _ (P : Parts) where
  -- ---- what reads at port p of the hold h add to a run

  abbrev adds : Port → P.Address → OrRefusal P.Value → Run P → Run P
  adds p a (refused n) r = with_refusal P r
  adds p a (accepted v) r = with_report P (tells p (read a) v) r

  abbrev answers : Port → P.Held → List P.Address → Run P → Run P
  answers p h [] r = r
  answers p h (a ∷ l) r = adds p a (P.look h a) (answers p h l r)

  reads_one : (p : Port) (a : P.Address) (s : State P) (k : State P → Run P) (q : OrRefusal P.Value) → follow P (and_then q (did_read P p a s)) s k ≡ adds p a q (k s)
  reads_one p a s k (refused n) = refl
  reads_one p a s k (accepted v) = refl

  reads_run : (p : Port) (l : List P.Address) (rest : List (Step P)) (s : State P) → run P (read_each P p l rest) s ≡ answers p (on s.holds p) l (run P rest s)
  reads_run p [] rest s = refl
  reads_run p (a ∷ l) rest s =
      let q = P.look (on s.holds p) a in
      reads_one p a s (run P (read_each P p l rest)) q ∙ ap (adds p a q) (reads_run p l rest s)

  -- ---- they do not touch what is not told to their port

  abbrev Apart : Port → Report P → Type 0
  Apart p silent = Unit {0}
  Apart p (commits c) = Unit {0}
  Apart p (tells q o v) = if_same p q ⊥ (Unit {0})
  Apart p (closes b c) = Unit {0}
  Apart p (resets k) = Unit {0}

  adds_report : (p : Port) (x : P.Address) (q : OrRefusal P.Value) (a : Report P) (r : Run P) → Apart p a → adds p x q (with_report P a r) ≡ with_report P a (adds p x q r)
  adds_report p x (refused n) silent r h = refl
  adds_report p x (refused n) (commits c) r h = refl
  adds_report p x (refused n) (tells q o v) r h = refl
  adds_report p x (refused n) (closes b c) r h = refl
  adds_report p x (refused n) (resets k) r h = refl
  adds_report p x (accepted w) silent r h = refl
  adds_report p x (accepted w) (commits c) r h = refl
  adds_report port0 x (accepted w) (tells port0 o v) r h = absurd h
  adds_report port0 x (accepted w) (tells port1 o v) r h = refl
  adds_report port1 x (accepted w) (tells port0 o v) r h = refl
  adds_report port1 x (accepted w) (tells port1 o v) r h = absurd h
  adds_report p x (accepted w) (closes b c) r h = refl
  adds_report p x (accepted w) (resets k) r h = refl

  answers_report : (p : Port) (o : P.Held) (l : List P.Address) (a : Report P) (r : Run P) → Apart p a → answers p o l (with_report P a r) ≡ with_report P a (answers p o l r)
  answers_report p o [] a r h = refl
  answers_report p o (x ∷ l) a r h = ap (adds p x (P.look o x)) (answers_report p o l a r h) ∙ adds_report p x (P.look o x) a (answers p o l r) h

  adds_refusal : (p : Port) (x : P.Address) (q : OrRefusal P.Value) (r : Run P) → adds p x q (with_refusal P r) ≡ with_refusal P (adds p x q r)
  adds_refusal p x (refused m) r = refl
  adds_refusal p x (accepted m) r = refl

  answers_refusal : (p : Port) (o : P.Held) (l : List P.Address) (r : Run P) → answers p o l (with_refusal P r) ≡ with_refusal P (answers p o l r)
  answers_refusal p o [] r = refl
  answers_refusal p o (x ∷ l) r = ap (adds p x (P.look o x)) (answers_refusal p o l r) ∙ adds_refusal p x (P.look o x) (answers p o l r)

  answers_adds : (o : P.Held) (l : List P.Address) (x : P.Address) (q : OrRefusal P.Value) (r : Run P) → answers port1 o l (adds port0 x q r) ≡ adds port0 x q (answers port1 o l r)
  answers_adds o l x (accepted v) r = answers_report port1 o l (tells port0 (read x) v) r tt
  answers_adds o l x (refused n) r = answers_refusal port1 o l r

  answers_swap : (o u : P.Held) (l m : List P.Address) (r : Run P) → answers port1 u m (answers port0 o l r) ≡ answers port0 o l (answers port1 u m r)
  answers_swap o u [] m r = refl
  answers_swap o u (x ∷ l) m r = answers_adds u m x (P.look o x) (answers port0 o l r) ∙ ap (adds port0 x (P.look o x)) (answers_swap o u l m r)

  -- ---- the claim: the reads that the steps xs begin with, up to each port's first hold, and then the moved steps, run as xs does

  abbrev both : PerPort P.Held → List P.Address → List P.Address → Run P → Run P
  both h l m r = answers port0 h.on0 l (answers port1 h.on1 m r)

  both_report : (h : PerPort P.Held) (l m : List P.Address) (a : Report P) (r : Run P) → Apart port0 a → Apart port1 a →
      both h l m (with_report P a r) ≡ with_report P a (both h l m r)
  both_report h l m a r i j = ap (answers port0 h.on0 l) (answers_report port1 h.on1 m a r j) ∙ answers_report port0 h.on0 l a (answers port1 h.on1 m r) i

  abbrev Even : List (Step P) → Type 0
  Even xs = (s : State P) → (run P xs s).refusals ≡ 0 → both s.holds (reads_ahead P port0 xs) (reads_ahead P port1 xs) (run P (moved P xs) s) ≡ run P xs s

  module _ (r : List (Step P)) (ih : Even r) (s : State P) where
    abbrev ahead : Port → List P.Address
    ahead p = reads_ahead P p r

    -- a step that tells nothing and leaves both holds
    other_even : {A : Type 0} (f : A → Done P) (q : OrRefusal A) → ((a : A) → Apart port0 (f a).0) → ((a : A) → Apart port1 (f a).0) → ((a : A) → s.holds ≡ (f a).1.holds) →
        (follow P (and_then q f) s (run P r)).refusals ≡ 0 → both s.holds (ahead port0) (ahead port1) (follow P (and_then q f) s (run P (moved P r))) ≡ follow P (and_then q f) s (run P r)
    other_even f (refused n) i j e h = never h
    other_even f (accepted a) i j e h =
        let x = (f a).0 in
        let t = (f a).1 in
        both_report s.holds (ahead port0) (ahead port1) x (run P (moved P r) t) (i a) (j a)
        ∙ ap (λ (z : PerPort P.Held). with_report P x (both z (ahead port0) (ahead port1) (run P (moved P r) t))) (e a)
        ∙ ap (with_report P x) (ih t (sym (report_refusals P x (run P r t)) ∙ h))

    hold_even0 : (k : P.HoldKind) (q : OrRefusal P.Held) → (follow P (and_then q (did_hold P port0 k s)) s (run P r)).refusals ≡ 0 →
        both s.holds [] (ahead port1) (follow P (and_then q (did_hold P port0 k s)) s (run P (read_each P port0 (ahead port0) (moved P r)))) ≡ follow P (and_then q (did_hold P port0 k s)) s (run P r)
    hold_even0 k (refused n) h = never h
    hold_even0 k (accepted v) h =
        let t = with_held P port0 v s in
        let a = tells port0 (hold k) (P.told k s.meter v) in
        let u = s.holds.on1 in
        answers_report port1 u (ahead port1) a (run P (read_each P port0 (ahead port0) (moved P r)) t) tt
        ∙ ap (λ (z : Run P). with_report P a (answers port1 u (ahead port1) z)) (reads_run port0 (ahead port0) (moved P r) t)
        ∙ ap (with_report P a) (answers_swap v u (ahead port0) (ahead port1) (run P (moved P r) t) ∙ ih t h)

    hold_even1 : (k : P.HoldKind) (q : OrRefusal P.Held) → (follow P (and_then q (did_hold P port1 k s)) s (run P r)).refusals ≡ 0 →
        both s.holds (ahead port0) [] (follow P (and_then q (did_hold P port1 k s)) s (run P (read_each P port1 (ahead port1) (moved P r)))) ≡ follow P (and_then q (did_hold P port1 k s)) s (run P r)
    hold_even1 k (refused n) h = never h
    hold_even1 k (accepted v) h =
        let t = with_held P port1 v s in
        let a = tells port1 (hold k) (P.told k s.meter v) in
        let u = s.holds.on0 in
        answers_report port0 u (ahead port0) a (run P (read_each P port1 (ahead port1) (moved P r)) t) tt
        ∙ ap (λ (z : Run P). with_report P a (answers port0 u (ahead port0) z)) (reads_run port1 (ahead port1) (moved P r) t)
        ∙ ap (with_report P a) (ih t h)

    read_even0 : (a : P.Address) (q : OrRefusal P.Value) → (follow P (and_then q (did_read P port0 a s)) s (run P r)).refusals ≡ 0 →
        adds port0 a q (both s.holds (ahead port0) (ahead port1) (run P (moved P r) s)) ≡ follow P (and_then q (did_read P port0 a s)) s (run P r)
    read_even0 a (refused n) h = never h
    read_even0 a (accepted v) h = ap (with_report P (tells port0 (read a) v)) (ih s h)

    read_even1 : (a : P.Address) (q : OrRefusal P.Value) → (follow P (and_then q (did_read P port1 a s)) s (run P r)).refusals ≡ 0 →
        answers port0 s.holds.on0 (ahead port0) (adds port1 a q (answers port1 s.holds.on1 (ahead port1) (run P (moved P r) s))) ≡ follow P (and_then q (did_read P port1 a s)) s (run P r)
    read_even1 a (refused n) h = never h
    read_even1 a (accepted v) h =
        answers_report port0 s.holds.on0 (ahead port0) (tells port1 (read a) v) (answers port1 s.holds.on1 (ahead port1) (run P (moved P r) s)) tt
        ∙ ap (with_report P (tells port1 (read a) v)) (ih s h)

  even : (xs : List (Step P)) → Even xs
  even [] s h = refl
  even (at_port none op ∷ r) s h = never h
  even (at_port (some p) (edit e) ∷ r) s h =
      other_even r (even r) s (did_edit P p s) (P.edited (on s.desks p) e) (λ d. tt) (λ d. tt) (λ d. refl) h
  even (at_port (some p) commit ∷ r) s h =
      other_even r (even r) s (did_commit P p s) (P.finished (on s.desks p)) (λ c. tt) (λ c. tt) (λ c. refl) h
  even (at_port (some p) drop_card ∷ r) s h =
      other_even r (even r) s (did_drop P p s) (P.discarded (on s.desks p)) (λ u. tt) (λ u. tt) (λ u. refl) h
  even (at_port (some port0) (hold k) ∷ r) s h = hold_even0 r (even r) s k (P.copy k s.meter) h
  even (at_port (some port1) (hold k) ∷ r) s h = hold_even1 r (even r) s k (P.copy k s.meter) h
  even (at_port (some port0) (read a) ∷ r) s h = read_even0 r (even r) s a (P.look s.holds.on0 a) h
  even (at_port (some port1) (read a) ∷ r) s h = read_even1 r (even r) s a (P.look s.holds.on1 a) h
  even (block b ∷ r) s h = other_even r (even r) s (did_block P b s) (P.feed s.meter b) (λ w. tt) (λ w. tt) (λ w. refl) h
  even (reset k ∷ r) s h = other_even r (even r) s (did_reset P k s) (P.clear s.meter k) (λ m. tt) (λ m. tt) (λ m. refl) h

  -- ---- from a fresh module no read is left over in front, since where nothing is held a read is refused

  no_rest : (l m : List P.Address) (r r' : Run P) → both (on_both P.unheld) l m r ≡ r' → r'.refusals ≡ 0 → r ≡ r'
  no_rest [] [] r r' e h = e
  no_rest [] (a ∷ m) r r' e h =
      never (ap (λ (q : OrRefusal P.Value). (adds port1 a q (answers port1 P.unheld m r)).refusals) (sym (P.unheld_refuses a).1) ∙ ap (λ (x : Run P). x.refusals) e ∙ h)
  no_rest (a ∷ l) m r r' e h =
      never (ap (λ (q : OrRefusal P.Value). (adds port0 a q (both (on_both P.unheld) l m r)).refusals) (sym (P.unheld_refuses a).1) ∙ ap (λ (x : Run P). x.refusals) e ∙ h)

  pub move : (xs : List (Step P)) (m : P.Meter) → (run P xs (fresh P m)).refusals ≡ 0 → run P (moved P xs) (fresh P m) ≡ run P xs (fresh P m)
  move xs m h = no_rest (reads_ahead P port0 xs) (reads_ahead P port1 xs) (run P (moved P xs) (fresh P m)) (run P xs (fresh P m)) (even xs (fresh P m) h) h
