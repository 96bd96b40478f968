-- What committed cards, accepted blocks and accepted resets keep holds at the end of every sequence of steps. To use: make a `Lasting`, and cite `always`.
use mathlib.Core.Path.{◌≡◌, refl, sym, subst}
use mathlib.Core.List.{List, [], ◌∷◌, ◌++◌, append-nil, append_assoc}
use mathlib.Core.Option.{none, some}
use Rattle.steps.specs.Answers.{OrRefusal, refused, accepted, and_then}
use Rattle.steps.specs.Port.{on}
use Rattle.steps.specs.Parts.{Parts}
use Rattle.steps.specs.Module.{edit, commit, drop_card, hold, read, Step, at_port, block, reset, State, Report, silent, commits, tells, closes, resets, did_edit, did_commit, did_drop, did_hold, did_read, did_block, did_reset, Done}
use Rattle.steps.specs.Run.{Run, with_report, follow, run}

-- a fact about a meter and the intervals closed so far, which a committed card, an accepted block and an accepted reset keep
pub record Lasting (P : Parts) : Type 1 where
  pub Of : P.Meter → List P.Closed → Type 0
  pub on_wait : (c : P.Card) (m : P.Meter) (h : List P.Closed) → Of m h → Of (P.wait c m) h
  pub on_feed : (m : P.Meter) (h : List P.Closed) (b : P.Block) (r : P.Meter × List P.Closed) → P.feed m b ≡ accepted r → Of m h → Of r.0 (h ++ r.1)
  pub on_clear : (k : P.Mask) (m : P.Meter) (h : List P.Closed) (m' : P.Meter) → P.clear m k ≡ accepted m' → Of m h → Of m' h

module _ (P : Parts) (L : Lasting P) where
  open L use {Of, on_wait, on_feed, on_clear}

  abbrev Keeps : (State P → Run P) → Type 0
  Keeps rest = (s : State P) (h : List P.Closed) → Of s.meter h → Of (rest s).end.meter (h ++ (rest s).closed)

  -- what an accepted step closes
  abbrev closed_by : Report P → List P.Closed
  closed_by silent = []
  closed_by (commits c) = []
  closed_by (tells p op v) = []
  closed_by (closes b c) = c
  closed_by (resets k) = []

  module _ (rest : State P → Run P) (ih : Keeps rest) (s : State P) (h : List P.Closed) (i : Of s.meter h) where
    report_keeps : (x : Report P) (t : State P) → Of t.meter (h ++ closed_by x) → Of (with_report P x (rest t)).end.meter (h ++ (with_report P x (rest t)).closed)
    report_keeps silent t j = ih t h (subst (Of t.meter) (append-nil h) j)
    report_keeps (commits c) t j = ih t h (subst (Of t.meter) (append-nil h) j)
    report_keeps (tells p op v) t j = ih t h (subst (Of t.meter) (append-nil h) j)
    report_keeps (closes b c) t j = subst (Of (rest t).end.meter) (append_assoc h c (rest t).closed) (ih t (h ++ c) j)
    report_keeps (resets k) t j = ih t h (subst (Of t.meter) (append-nil h) j)

    step_keeps : {A : Type 0} (q : OrRefusal A) (f : A → Done P) → ((a : A) → q ≡ accepted a → Of (f a).1.meter (h ++ closed_by (f a).0)) →
        Of (follow P (and_then q f) s rest).end.meter (h ++ (follow P (and_then q f) s rest).closed)
    step_keeps (refused n) f j = ih s h i
    step_keeps (accepted a) f j = report_keeps (f a).0 (f a).1 (j a refl)

  none_has_closed : (m : P.Meter) (h : List P.Closed) → Of m h → Of m (h ++ [])
  none_has_closed m h i = subst (Of m) (sym (append-nil h)) i

  keeps : (xs : List (Step P)) → Keeps (run P xs)
  keeps [] s h i = none_has_closed s.meter h i
  keeps (at_port none op ∷ r) s h i = keeps r s h i
  keeps (at_port (some p) (edit e) ∷ r) s h i =
      step_keeps (run P r) (keeps r) s h i (P.edited (on s.desks p) e) (did_edit P p s) (λ d q. none_has_closed s.meter h i)
  keeps (at_port (some p) commit ∷ r) s h i =
      step_keeps (run P r) (keeps r) s h i (P.finished (on s.desks p)) (did_commit P p s)
      (λ c q. none_has_closed (P.wait c s.meter) h (on_wait c s.meter h i))
  keeps (at_port (some p) drop_card ∷ r) s h i =
      step_keeps (run P r) (keeps r) s h i (P.discarded (on s.desks p)) (did_drop P p s) (λ u q. none_has_closed s.meter h i)
  keeps (at_port (some p) (hold k) ∷ r) s h i =
      step_keeps (run P r) (keeps r) s h i (P.copy k s.meter) (did_hold P p k s) (λ v q. none_has_closed s.meter h i)
  keeps (at_port (some p) (read a) ∷ r) s h i =
      step_keeps (run P r) (keeps r) s h i (P.look (on s.holds p) a) (did_read P p a s) (λ v q. none_has_closed s.meter h i)
  keeps (block b ∷ r) s h i =
      step_keeps (run P r) (keeps r) s h i (P.feed s.meter b) (did_block P b s) (λ w q. on_feed s.meter h b w q i)
  keeps (reset k ∷ r) s h i =
      step_keeps (run P r) (keeps r) s h i (P.clear s.meter k) (did_reset P k s) (λ m q. none_has_closed m h (on_clear k s.meter h m q i))

  pub always : (s : State P) (xs : List (Step P)) → Of s.meter [] → Of (run P xs s).end.meter (run P xs s).closed
  always s xs i = keeps xs s [] i
