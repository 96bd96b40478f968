-- What a run closes, and the meter that it leaves, follow from its history alone: the committed cards, the accepted blocks and the accepted
-- resets.
use mathlib.Core.Path.{◌≡◌, refl, ap, sym, ◌∙◌}
use mathlib.Core.List.{List, [], ◌∷◌, ◌++◌}
use mathlib.Core.Option.{none, some}
use Rattle.steps.specs.Answers.{OrRefusal, refused, accepted, and_then, or_as_before}
use Rattle.steps.specs.Port.{Port, on}
use Rattle.steps.specs.Parts.{Parts}
use Rattle.steps.specs.Module.{edit, commit, drop_card, hold, read, Step, at_port, block, reset, State, Report, silent, commits, tells, closes, resets, did_edit, did_commit, did_drop, did_hold, did_read, did_block, did_reset, Done}
use Rattle.steps.specs.Run.{Event, committed, fed, cleared, Run, follow, run}
use Rattle.steps.specs.History.{play, HistoryDecides}

module _ (P : Parts) where
  -- the meter that a history leaves
  abbrev pub end_of : List (Event P) → P.Meter → P.Meter
  end_of [] m = m
  end_of (committed c ∷ h) m = end_of h (P.wait c m)
  end_of (fed b ∷ h) m = end_of h (or_as_before (and_then (P.feed m b) (λ r. r.0)) m)
  end_of (cleared k ∷ h) m = end_of h (or_as_before (P.clear m k) m)

  abbrev PlaysFrom : P.Meter → Run P → Type 0
  PlaysFrom m r = (r.closed ≡ play P r.history m) × (r.end.meter ≡ end_of r.history m)

  abbrev Plays : (State P → Run P) → Type 0
  Plays rest = (s : State P) → PlaysFrom s.meter (rest s)

  -- a report that is no event
  abbrev Aside : Report P → Type 0
  Aside silent = Unit {0}
  Aside (commits c) = ⊥
  Aside (tells p op v) = Unit {0}
  Aside (closes b c) = ⊥
  Aside (resets k) = ⊥

  module _ (rest : State P → Run P) (ih : Plays rest) (s : State P) where
    other_plays : {A : Type 0} (f : A → Done P) (q : OrRefusal A) → ((a : A) → Aside (f a).0) → ((a : A) → (f a).1.meter ≡ s.meter) →
        PlaysFrom s.meter (follow P (and_then q f) s rest)
    other_plays f (refused n) i e = ih s
    other_plays f (accepted a) i e = by (f a).0 (i a)
      where
        same : PlaysFrom s.meter (rest (f a).1)
        same =
            let r = rest (f a).1 in
            let j = ih (f a).1 in
            (j.0 ∙ ap (play P r.history) (e a), j.1 ∙ ap (end_of r.history) (e a))

        by : (x : Report P) → Aside x → PlaysFrom s.meter (follow P (accepted (x, (f a).1)) s rest)
        by silent j = same
        by (commits c) j = absurd j
        by (tells p o v) j = same
        by (closes b c) j = absurd j
        by (resets k) j = absurd j

    commit_plays : (p : Port) (q : OrRefusal P.Card) → PlaysFrom s.meter (follow P (and_then q (did_commit P p s)) s rest)
    commit_plays p (refused n) = ih s
    commit_plays p (accepted c) = ih (did_commit P p s c).1

    block_plays : (b : P.Block) (q : OrRefusal (P.Meter × List P.Closed)) → P.feed s.meter b ≡ q →
        PlaysFrom s.meter (follow P (and_then q (did_block P b s)) s rest)
    block_plays b (refused n) e = ih s
    block_plays b (accepted r) e =
        let t = (did_block P b s r).1 in
        let to : OrRefusal (P.Meter × List P.Closed) → P.Meter = λ q. end_of (rest t).history (or_as_before (and_then q (λ r. r.0)) s.meter) in
        (rw e (ap (λ (l : List P.Closed). r.1 ++ l) (ih t).0), (ih t).1 ∙ ap to (sym e))

    reset_plays : (k : P.Mask) (q : OrRefusal P.Meter) → P.clear s.meter k ≡ q →
        PlaysFrom s.meter (follow P (and_then q (did_reset P k s)) s rest)
    reset_plays k (refused n) e = ih s
    reset_plays k (accepted m) e =
        let t = (did_reset P k s m).1 in
        let to : OrRefusal P.Meter → P.Meter = λ q. or_as_before q s.meter in
        ((ih t).0 ∙ ap (λ q. play P (rest t).history (to q)) (sym e), (ih t).1 ∙ ap (λ q. end_of (rest t).history (to q)) (sym e))

  pub run_plays : (xs : List (Step P)) → Plays (run P xs)
  run_plays [] s = (refl, refl)
  run_plays (at_port none op ∷ r) s = run_plays r s
  run_plays (at_port (some p) (edit e) ∷ r) s = other_plays (run P r) (run_plays r) s (did_edit P p s) (P.edited (on s.desks p) e) (λ d. tt) (λ d. refl)
  run_plays (at_port (some p) commit ∷ r) s = commit_plays (run P r) (run_plays r) s p (P.finished (on s.desks p))
  run_plays (at_port (some p) drop_card ∷ r) s = other_plays (run P r) (run_plays r) s (did_drop P p s) (P.discarded (on s.desks p)) (λ u. tt) (λ u. refl)
  run_plays (at_port (some p) (hold k) ∷ r) s =
      other_plays (run P r) (run_plays r) s (did_hold P p k s) (P.copy k s.meter) (λ h. tt) (λ h. refl)
  run_plays (at_port (some p) (read a) ∷ r) s = other_plays (run P r) (run_plays r) s (did_read P p a s) (P.look (on s.holds p) a) (λ v. tt) (λ v. refl)
  run_plays (block b ∷ r) s = block_plays (run P r) (run_plays r) s b (P.feed s.meter b) refl
  run_plays (reset k ∷ r) s = reset_plays (run P r) (run_plays r) s k (P.clear s.meter k) refl

  pub history_decides : (s : State P) (xs : List (Step P)) → HistoryDecides P s xs
  history_decides s xs = (run_plays xs s).0
