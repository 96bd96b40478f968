-- Pass 3: with the dropped cards struck out and each committed card drawn into one act, a sequence of which no step is refused runs as
-- before.
use mathlib.Core.Path.{◌≡◌, refl, ap, sym, subst, ◌∙◌}
use mathlib.Core.List.{List, [], ◌∷◌, ◌++◌}
use mathlib.Core.Option.{none, some}
use Rattle.steps.specs.Answers.{OrRefusal, refused, accepted, and_then}
use Rattle.steps.specs.Port.{Port, port0, port1, PerPort, on, put_on, on_both}
use Rattle.steps.specs.Parts.{Parts}
use Rattle.steps.specs.Module.{edit, commit, drop_card, hold, read, Step, at_port, block, reset, State, with_meter, with_desk, fresh, commits, did_edit, did_commit, did_drop, did_hold, did_read, did_block, did_reset, Done}
use Rattle.steps.specs.Run.{with_report, follow, run}
use Rattle.steps.specs.Shorter.{Fate, stays_open, will_commit, will_drop, edit_each, steps_of, fate, Drafts, drawn_edit, drawn}
use Rattle.steps.proofs.Outcomes.{never, report_refusals}

module _ (P : Parts) where
  -- ---- in the shorter run the desk of a card that will be committed or dropped stays shut

  abbrev hide : Fate → P.Desk → P.Desk
  hide stays_open d = d
  hide will_commit d = P.shut
  hide will_drop d = P.shut

  hide_shut : (f : Fate) → hide f P.shut ≡ P.shut
  hide_shut stays_open = refl
  hide_shut will_commit = refl
  hide_shut will_drop = refl

  abbrev veil : Fate → Fate → State P → State P
  veil f g s = record { meter = s.meter; desks = record { on0 = hide f s.desks.on0; on1 = hide g s.desks.on1 }; holds = s.holds }

  abbrev veil_at : Port → Fate → Fate → State P → State P
  veil_at port0 f g s = veil f g s
  veil_at port1 f g s = veil g f s

  -- ---- a draft brings a shut desk to where it stands

  abbrev Brings : Port → List P.Edit → P.Desk → Type 0
  Brings p es d = (rest : List (Step P)) (t : State P) → run P (edit_each P p es rest) (with_desk P p P.shut t) ≡ run P rest (with_desk P p d t)

  abbrev Need : Fate → Port → List P.Edit → P.Desk → Type 0
  Need stays_open p es d = Unit {0}
  Need will_commit p es d = Brings p es d
  Need will_drop p es d = Unit {0}

  shut_need : (f : Fate) (p : Port) → Need f p [] P.shut
  shut_need stays_open p = tt
  shut_need will_commit p = λ rest t. refl
  shut_need will_drop p = tt

  edits_snoc : (p : Port) (es : List P.Edit) (e : P.Edit) (rest : List (Step P)) → edit_each P p (es ++ (e ∷ [])) rest ≡ edit_each P p es (at_port (some p) (edit e) ∷ rest)
  edits_snoc p [] e rest = refl
  edits_snoc p (x ∷ es) e rest = ap (λ (l : List (Step P)). at_port (some p) (edit x) ∷ l) (edits_snoc p es e rest)

  brings_one : (p : Port) (e : P.Edit) (d d' : P.Desk) → P.edited d e ≡ accepted d' → (rest : List (Step P)) (t : State P) →
      run P (at_port (some p) (edit e) ∷ rest) (with_desk P p d t) ≡ run P rest (with_desk P p d' t)
  brings_one port0 e d d' q rest t = rw q
  brings_one port1 e d d' q rest t = rw q

  brings_snoc : (p : Port) (es : List P.Edit) (e : P.Edit) (d d' : P.Desk) → Brings p es d → P.edited d e ≡ accepted d' → Brings p (es ++ (e ∷ [])) d'
  brings_snoc p es e d d' b q rest t = rw (edits_snoc p es e rest) (b (at_port (some p) (edit e) ∷ rest) t ∙ brings_one p e d d' q rest t)

  -- ---- the claim, for the steps r: f is the fate of the card open at p, and g of the other port's

  abbrev other : Port → Port
  other port0 = port1
  other port1 = port0

  abbrev Fine : Port → List (Step P) → (Drafts P → List (Step P)) → Fate → Fate → Type 0
  Fine p r go f g = (k : Drafts P) (s : State P) → (run P r s).refusals ≡ 0 → Need f p (on k p) (on s.desks p) → Need g (other p) (on k (other p)) (on s.desks (other p)) →
      run P (go k) (veil_at p f g s) ≡ run P r s

  module _ (r : List (Step P)) where
    abbrev go : Drafts P → List (Step P)
    go k = steps_of P (drawn P r k)

    -- a step that leaves both desks
    other_fine : {A : Type 0} (f g : Fate) → Fine port0 r go f g → (k : Drafts P) (s : State P) (act : A → Done P) (q : OrRefusal A) → ((a : A) → s.desks ≡ (act a).1.desks) →
        (follow P (and_then q act) s (run P r)).refusals ≡ 0 → Need f port0 k.on0 s.desks.on0 → Need g port1 k.on1 s.desks.on1 →
        follow P (and_then q (λ a. ((act a).0, veil f g (act a).1))) (veil f g s) (run P (go k)) ≡ follow P (and_then q act) s (run P r)
    other_fine f g i k s act (refused c) e h m n = never h
    other_fine f g i k s act (accepted a) e h m n =
        ap (with_report P (act a).0)
        (i k (act a).1 (sym (report_refusals P (act a).0 (run P r (act a).1)) ∙ h)
        (subst (λ (z : PerPort P.Desk). Need f port0 k.on0 z.on0) (e a) m)
        (subst (λ (z : PerPort P.Desk). Need g port1 k.on1 z.on1) (e a) n))

    edit_fine : (p : Port) (e : P.Edit) (f g : Fate) → Fine p r go f g → (k : Drafts P) (s : State P) (q : OrRefusal P.Desk) → P.edited (on s.desks p) e ≡ q →
        (follow P (and_then q (did_edit P p s)) s (run P r)).refusals ≡ 0 → Need f p (on k p) (on s.desks p) → Need g (other p) (on k (other p)) (on s.desks (other p)) →
        run P (steps_of P (drawn_edit P f p e (drawn P r) k)) (veil_at p f g s) ≡ follow P (and_then q (did_edit P p s)) s (run P r)
    edit_fine p e f g i k s (refused c) q h m n = never h
    edit_fine port0 e stays_open g i k s (accepted d) q h m n = rw q (i k (with_desk P port0 d s) h tt n)
    edit_fine port1 e stays_open g i k s (accepted d) q h m n = rw q (i k (with_desk P port1 d s) h tt n)
    edit_fine port0 e will_commit g i k s (accepted d) q h m n = i (put_on port0 (k.on0 ++ (e ∷ [])) k) (with_desk P port0 d s) h (brings_snoc port0 k.on0 e s.desks.on0 d m q) n
    edit_fine port1 e will_commit g i k s (accepted d) q h m n = i (put_on port1 (k.on1 ++ (e ∷ [])) k) (with_desk P port1 d s) h (brings_snoc port1 k.on1 e s.desks.on1 d m q) n
    edit_fine port0 e will_drop g i k s (accepted d) q h m n = i k (with_desk P port0 d s) h tt n
    edit_fine port1 e will_drop g i k s (accepted d) q h m n = i k (with_desk P port1 d s) h tt n

    -- once its card is committed or dropped, the desk is shut in both runs
    shut_fine : (p : Port) (f g : Fate) → Fine p r go f g → (k : Drafts P) (s : State P) → (run P r (with_desk P p P.shut s)).refusals ≡ 0 →
        Need g (other p) (on k (other p)) (on s.desks (other p)) → run P (go (put_on p [] k)) (with_desk P p P.shut (veil_at p will_commit g s)) ≡ run P r (with_desk P p P.shut s)
    shut_fine port0 f g i k s h n =
        ap (λ (d : P.Desk). run P (go (put_on port0 [] k)) (with_desk P port0 d (veil will_commit g s))) (sym (hide_shut f))
        ∙ i (put_on port0 [] k) (with_desk P port0 P.shut s) h (shut_need f port0) n
    shut_fine port1 f g i k s h n =
        ap (λ (d : P.Desk). run P (go (put_on port1 [] k)) (with_desk P port1 d (veil g will_commit s))) (sym (hide_shut f))
        ∙ i (put_on port1 [] k) (with_desk P port1 P.shut s) h (shut_need f port1) n

    commit_shut : (p : Port) (f g : Fate) → Fine p r go f g → (k : Drafts P) (s : State P) (q : OrRefusal P.Card) →
        (follow P (and_then q (did_commit P p s)) s (run P r)).refusals ≡ 0 → Need g (other p) (on k (other p)) (on s.desks (other p)) →
        follow P (and_then q (did_commit P p (veil_at p stays_open g s))) (veil_at p stays_open g s) (run P (go (put_on p [] k))) ≡ follow P (and_then q (did_commit P p s)) s (run P r)
    commit_shut p f g i k s (refused c) h n = never h
    commit_shut port0 f g i k s (accepted c) h n = ap (with_report P (commits c)) (shut_fine port0 f g i k (with_meter P (P.wait c s.meter) s) h n)
    commit_shut port1 f g i k s (accepted c) h n = ap (with_report P (commits c)) (shut_fine port1 f g i k (with_meter P (P.wait c s.meter) s) h n)

    -- the draft brings the shut desk to where the commit finds it
    commit_fine : (p : Port) (f g : Fate) → Fine p r go f g → Fine p (at_port (some p) commit ∷ r) (λ k. steps_of P (drawn P (at_port (some p) commit ∷ r) k)) will_commit g
    commit_fine port0 f g i k s h m n = m (at_port (some port0) commit ∷ go (put_on port0 [] k)) (veil stays_open g s) ∙ commit_shut port0 f g i k s (P.finished s.desks.on0) h n
    commit_fine port1 f g i k s h m n = m (at_port (some port1) commit ∷ go (put_on port1 [] k)) (veil g stays_open s) ∙ commit_shut port1 f g i k s (P.finished s.desks.on1) h n

    drop_fine : (p : Port) (f g : Fate) → Fine p r go f g → (k : Drafts P) (s : State P) (q : OrRefusal (Unit {0})) →
        (follow P (and_then q (did_drop P p s)) s (run P r)).refusals ≡ 0 → Need g (other p) (on k (other p)) (on s.desks (other p)) →
        run P (go (put_on p [] k)) (veil_at p will_drop g s) ≡ follow P (and_then q (did_drop P p s)) s (run P r)
    drop_fine p f g i k s (refused c) h n = never h
    drop_fine port0 f g i k s (accepted u) h n = shut_fine port0 f g i k s h n
    drop_fine port1 f g i k s (accepted u) h n = shut_fine port1 f g i k s h n

  flip : (r : List (Step P)) (go : Drafts P → List (Step P)) (f g : Fate) → Fine port0 r go f g → Fine port1 r go g f
  flip r go f g i k s h m n = i k s h n m

  fine : (xs : List (Step P)) → Fine port0 xs (λ k. steps_of P (drawn P xs k)) (fate P port0 xs) (fate P port1 xs)
  fine [] k s h m n = refl
  fine (at_port none op ∷ r) k s h m n = never h
  fine (at_port (some port0) (edit e) ∷ r) k s h m n = edit_fine r port0 e (fate P port0 r) (fate P port1 r) (fine r) k s (P.edited s.desks.on0 e) refl h m n
  fine (at_port (some port1) (edit e) ∷ r) k s h m n = edit_fine r port1 e (fate P port1 r) (fate P port0 r) (flip r (go r) (fate P port0 r) (fate P port1 r) (fine r)) k s (P.edited s.desks.on1 e) refl h n m
  fine (at_port (some port0) commit ∷ r) k s h m n = commit_fine r port0 (fate P port0 r) (fate P port1 r) (fine r) k s h m n
  fine (at_port (some port1) commit ∷ r) k s h m n = commit_fine r port1 (fate P port1 r) (fate P port0 r) (flip r (go r) (fate P port0 r) (fate P port1 r) (fine r)) k s h n m
  fine (at_port (some port0) drop_card ∷ r) k s h m n = drop_fine r port0 (fate P port0 r) (fate P port1 r) (fine r) k s (P.discarded s.desks.on0) h n
  fine (at_port (some port1) drop_card ∷ r) k s h m n = drop_fine r port1 (fate P port1 r) (fate P port0 r) (flip r (go r) (fate P port0 r) (fate P port1 r) (fine r)) k s (P.discarded s.desks.on1) h m
  fine (at_port (some p) (hold t) ∷ r) k s h m n =
      other_fine r (fate P port0 r) (fate P port1 r) (fine r) k s (did_hold P p t s) (P.copy t s.meter) (λ v. refl) h m n
  fine (at_port (some p) (read a) ∷ r) k s h m n =
      other_fine r (fate P port0 r) (fate P port1 r) (fine r) k s (did_read P p a s) (P.look (on s.holds p) a) (λ v. refl) h m n
  fine (block b ∷ r) k s h m n =
      other_fine r (fate P port0 r) (fate P port1 r) (fine r) k s (did_block P b s) (P.feed s.meter b) (λ w. refl) h m n
  fine (reset t ∷ r) k s h m n =
      other_fine r (fate P port0 r) (fate P port1 r) (fine r) k s (did_reset P t s) (P.clear s.meter t) (λ w. refl) h m n

  -- ---- from a fresh module, where both desks are shut

  veil_fresh : (f g : Fate) (m : P.Meter) → veil f g (fresh P m) ≡ fresh P m
  veil_fresh f g m = ap (λ (x : PerPort P.Desk). record { meter = m; desks = x; holds = on_both P.unheld }) (λ i. record { on0 = hide_shut f i; on1 = hide_shut g i })

  pub draw : (xs : List (Step P)) (m : P.Meter) → (run P xs (fresh P m)).refusals ≡ 0 → run P (steps_of P (drawn P xs (on_both []))) (fresh P m) ≡ run P xs (fresh P m)
  draw xs m h = rw (veil_fresh (fate P port0 xs) (fate P port1 xs) m) at (fine xs (on_both []) (fresh P m) h (shut_need (fate P port0 xs) port0) (shut_need (fate P port1 xs) port1))
