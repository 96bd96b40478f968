-- What watches the samples sees each accepted one with the card of its interval, and meets each reset where it stood.
use mathlib.Core.Path.{◌≡◌, refl, ap, sym, ◌∙◌}
use mathlib.Core.Bool.{Bool, true, false, cond}
use mathlib.Core.List.{List, [], ◌∷◌, ◌++◌, foldl, foldl-append, append-nil, append_assoc, map-append}
use mathlib.Core.Option.{Option, none, some}
use lib.ListN.{length}
use Rattle.steps.specs.Answers.{OrRefusal, refused, accepted, and_then, or_as_before}
use Rattle.steps.specs.Port.{on}
use Rattle.steps.specs.Parts.{Parts}
use Rattle.steps.specs.Module.{edit, commit, drop_card, hold, read, Step, at_port, block, reset, State, fresh, Report, silent, commits, tells, closes, resets, did_edit, did_commit, did_drop, did_hold, did_read, did_block, did_reset, Done}
use Rattle.steps.specs.Run.{Event, committed, fed, cleared, follow, run}
use Rattle.steps.specs.Shorter.{struck_if, struck}
use Rattle.steps.specs.Gauge.{Gauge, Ports, Meter, Metering, newly, latest, sample, samples, watches, passes, parts_of}
use Rattle.steps.specs.OneCard.{Tagged, tag_block, tagged, Interval, gathered, closed_with, first_of, more_of, Place, cut_if_full, cut_before, cut_at, intervals, outset, place_after}
use Rattle.steps.specs.Watching.{Mark, seen, named, card_for, seen_of, marked, meets, WatchHistory, sampled, with_card, with_cards, with_card_if, MarksAre, named_of, resets_of, ResetsAre}
use Rattle.steps.proofs.History.{end_of, run_plays}
use Rattle.steps.proofs.Cutting.{Match, match_wait, sample_cut, under, samples_cut}

module _ (G : Gauge) where
  open G use {Card, Sample, Work, Watch, Mask, samples_of, breaks, full, sees, clear}

  -- ---- the samples that are seen, each with its card, are those that are cut into intervals

  -- those of what was cut off and of what is open
  abbrev has : Place G × List (Interval G) → List (Tagged G)
  has r = with_cards G r.1 ++ with_card_if G r.0.running

  full_has : (b : Bool) (i : Interval G) (w v : Work) →
      has (cond b (record { left = v; running = none }, i ∷ []) (record { left = w; running = some i }, [])) ≡ with_card G i
  full_has true i w v = append-nil (with_card G i ++ []) ∙ append-nil (with_card G i)
  full_has false i w v = refl

  if_full_has : (i : Interval G) (w : Work) → has (cut_if_full G i w) ≡ with_card G i
  if_full_has i w = full_has (full i.card (length i.samples) (gathered G i w)) i w (closed_with G i w).0

  before_has : (i : Interval G) (w : Work) (t : Tagged G) → has (cut_before G i w t) ≡ with_card G i ++ (t ∷ [])
  before_has i w t =
      let r = cut_if_full G (first_of G t) (closed_with G i w).0 in
      append_assoc (with_card G i) (with_cards G r.1) (with_card_if G r.0.running)
      ∙ ap (λ (l : List (Tagged G)). with_card G i ++ l) (if_full_has (first_of G t) (closed_with G i w).0)

  inside_has : (b : Bool) (i : Interval G) (w : Work) (t : Tagged G) →
      has (cond b (cut_before G i w t) (cut_if_full G (more_of G i t) w)) ≡ with_card G i ++ ((cond b t.0 i.card, t.1) ∷ [])
  inside_has true i w t = before_has i w t
  inside_has false i w t = if_full_has (more_of G i t) w ∙ map-append (λ (x : Sample). (i.card, x)) i.samples (t.1 ∷ [])

  at_has : (o : Option (Interval G)) (w : Work) (t : Tagged G) → has (cut_at G o w t) ≡ with_card_if G o ++ ((card_for G o w t, t.1) ∷ [])
  at_has none w t = if_full_has (first_of G t) w
  at_has (some i) w t = inside_has (breaks i.card (length i.samples) (gathered G i w) t.1) i w t

  cards_append : (a b : List (Interval G)) → with_cards G (a ++ b) ≡ with_cards G a ++ with_cards G b
  cards_append [] b = refl
  cards_append (i ∷ a) b =
      ap (λ (l : List (Tagged G)). with_card G i ++ l) (cards_append a b) ∙ sym (append_assoc (with_card G i) (with_cards G a) (with_cards G b))

  -- the cutting keeps what is put into it
  pub cut_keeps : (ts : List (Tagged G)) (p : Place G) →
      with_cards G (intervals G ts p) ++ with_card_if G (place_after G ts p).running ≡ with_card_if G p.running ++ sampled G (seen_of G ts p)
  cut_keeps [] p = sym (append-nil (with_card_if G p.running))
  cut_keeps (t ∷ ts) p =
      let r = cut_at G p.running p.left t in
      let a = with_cards G r.1 in
      let b = with_cards G (intervals G ts r.0) in
      let e = with_card_if G (place_after G ts r.0).running in
      let rest = sampled G (seen_of G ts r.0) in
      ap (λ (l : List (Tagged G)). l ++ e) (cards_append r.1 (intervals G ts r.0))
      ∙ append_assoc a b e
      ∙ ap (λ (l : List (Tagged G)). a ++ l) (cut_keeps ts r.0)
      ∙ sym (append_assoc a (with_card_if G r.0.running) rest)
      ∙ ap (λ (l : List (Tagged G)). l ++ rest) (at_has p.running p.left t)
      ∙ append_assoc (with_card_if G p.running) ((card_for G p.running p.left t, t.1) ∷ []) rest

  sampled_append : (a b : List (Mark G)) → sampled G (a ++ b) ≡ sampled G a ++ sampled G b
  sampled_append [] b = refl
  sampled_append (seen c x ∷ a) b = ap (λ (l : List (Tagged G)). (c, x) ∷ l) (sampled_append a b)
  sampled_append (named k ∷ a) b = sampled_append a b

  seen_append : (ts us : List (Tagged G)) (p : Place G) → seen_of G (ts ++ us) p ≡ seen_of G ts p ++ seen_of G us (place_after G ts p)
  seen_append [] us p = refl
  seen_append (t ∷ ts) us p =
      ap (λ (l : List (Mark G)). seen (card_for G p.running p.left t) t.1 ∷ l) (seen_append ts us (cut_at G p.running p.left t).0)

  block_first : (c : Option Card) (q : OrRefusal (List Sample)) (rest : List (Tagged G)) → tag_block G c q rest ≡ tag_block G c q [] ++ rest
  block_first c (refused n) rest = refl
  block_first none (accepted xs) rest = refl
  block_first (some c) (accepted xs) rest = ap (λ (l : List (Tagged G)). l ++ rest) (sym (append-nil (under G c xs)))

  -- ---- no reset is among the marks of a block

  unnamed : (ts : List (Tagged G)) (p : Place G) (r : List (Mark G)) → named_of G (seen_of G ts p ++ r) ≡ named_of G r
  unnamed [] p r = refl
  unnamed (t ∷ ts) p r = unnamed ts (cut_at G p.running p.left t).0 r

  -- ---- a block's samples pass the watch

  watches_is : (t : Card) (xs : List Sample) (m : Meter G) (p : Place G) (a : Watch) → latest G m ≡ some t → Match G m p.left p.running →
      watches G xs m a ≡ foldl (meets G) a (seen_of G (under G t xs) p)
  watches_is t [] m p a k q = refl
  watches_is t (x ∷ xs) m p a k q =
      let r = (sample G m.taken m x).0 in
      let c = sample_cut G t m p.left p.running x k q in
      ap (λ (d : Card). watches G xs r (sees d a x)) c.1
      ∙ watches_is t xs r (cut_at G p.running p.left (t, x)).0 (sees (card_for G p.running p.left (t, x)) a x) c.0.last c.0.match

  module _ (D : Ports (Metering G) Card) where
    abbrev P : Parts
    P = parts_of G D

    -- ---- the watch at the end of a history

    abbrev Met : List (Event P) → Type 0
    Met h = (m : Metering G) (p : Place G) (t : Option Card) → latest G m.intervals ≡ t → Match G m.intervals p.left p.running →
        (end_of P h m).watch ≡ foldl (meets G) m.watch (marked G D t h p)

    module _ (h : List (Event P)) (ih : Met h) (m : Metering G) (p : Place G) where
      fed_met : (r : OrRefusal (List Sample)) (t : Option Card) → latest G m.intervals ≡ t → Match G m.intervals p.left p.running →
          let ts = tag_block G t r [] in
          (end_of P h (or_as_before (and_then (passes G r t m) (λ r. r.0)) m)).watch
          ≡ foldl (meets G) m.watch (seen_of G ts p ++ marked G D t h (place_after G ts p))
      fed_met (refused n) t k q = ih m p t k q
      fed_met (accepted xs) none k q = ih m p none k q
      fed_met (accepted xs) (some c) k q =
          let ts = under G c xs in
          let cut = samples_cut G c xs m.intervals p k q in
          let to = place_after G ts p in
          let rest = marked G D (some c) h to in
          ih (record { intervals = (samples G xs m.intervals).0; watch = watches G xs m.intervals m.watch }) to (some c) cut.last cut.match
          ∙ ap (λ (a : Watch). foldl (meets G) a rest) (watches_is c xs m.intervals p m.watch k q)
          ∙ sym (foldl-append (meets G) m.watch (seen_of G ts p) rest)
          ∙ ap (λ (l : List (Tagged G)). foldl (meets G) m.watch (seen_of G l p ++ marked G D (some c) h (place_after G l p))) (sym (append-nil ts))

      cleared_met : (r : OrRefusal Watch) (t : Option Card) → latest G m.intervals ≡ t → Match G m.intervals p.left p.running →
          (end_of P h (or_as_before (and_then r (λ a. record { intervals = m.intervals; watch = a })) m)).watch
          ≡ foldl (meets G) (or_as_before r m.watch) (marked G D t h p)
      cleared_met (refused n) t k q = ih m p t k q
      cleared_met (accepted a) t k q = ih (record { intervals = m.intervals; watch = a }) p t k q

    met : (h : List (Event P)) → Met h
    met [] m p t k q = refl
    met (committed c ∷ h) m p t k q = met h (P.wait c m) p (some c) refl (match_wait G c m.intervals p.left p.running q)
    met (fed b ∷ h) m p t k q =
        ap (λ (c : Option Card). (end_of P h (or_as_before (and_then (passes G (samples_of b) c m) (λ r. r.0)) m)).watch) k
        ∙ fed_met h (met h) m p (samples_of b) t k q
    met (cleared k ∷ h) m p t e q = cleared_met h (met h) m p (clear m.watch k) t e q

    pub watch_history : (blank : Card) (w : Work) (a : Watch) (xs : List (Step P)) → WatchHistory G D blank w a xs
    watch_history blank w a xs =
        let s = fresh P (newly G blank w a) in
        ap (λ (m : Metering G). m.watch) (run_plays P xs s).1 ∙ met (run P xs s).history (newly G blank w a) (outset G w) none refl (refl, refl)

    -- ---- the samples among the marks

    marks_sampled : (h : List (Event P)) (t : Option Card) (p : Place G) → sampled G (marked G D t h p) ≡ sampled G (seen_of G (tagged G D t h) p)
    marks_sampled [] t p = refl
    marks_sampled (committed c ∷ h) t p = marks_sampled h (some c) p
    marks_sampled (fed b ∷ h) t p =
        let ts = tag_block G t (samples_of b) [] in
        let us = tagged G D t h in
        let to = place_after G ts p in
        sampled_append (seen_of G ts p) (marked G D t h to)
        ∙ ap (λ (l : List (Tagged G)). sampled G (seen_of G ts p) ++ l) (marks_sampled h t to)
        ∙ sym (sampled_append (seen_of G ts p) (seen_of G us to))
        ∙ ap (sampled G) (sym (seen_append ts us p))
        ∙ ap (λ (l : List (Tagged G)). sampled G (seen_of G l p)) (sym (block_first t (samples_of b) us))
    marks_sampled (cleared k ∷ h) t p = marks_sampled h t p

    pub marks_are : (blank : Card) (w : Work) (a : Watch) (xs : List (Step P)) → MarksAre G D blank w a xs
    marks_are blank w a xs =
        let h = (run P xs (fresh P (newly G blank w a))).history in
        marks_sampled h none (outset G w) ∙ sym (cut_keeps (tagged G D none h) (outset G w))

    -- ---- the resets among the marks

    -- what the resets of a history name
    abbrev masks_of : List (Event P) → List Mask
    masks_of [] = []
    masks_of (committed c ∷ h) = masks_of h
    masks_of (fed b ∷ h) = masks_of h
    masks_of (cleared k ∷ h) = k ∷ masks_of h

    marks_named : (h : List (Event P)) (t : Option Card) (p : Place G) → named_of G (marked G D t h p) ≡ masks_of h
    marks_named [] t p = refl
    marks_named (committed c ∷ h) t p = marks_named h (some c) p
    marks_named (fed b ∷ h) t p =
        let ts = tag_block G t (samples_of b) [] in
        unnamed ts p (marked G D t h (place_after G ts p)) ∙ marks_named h t (place_after G ts p)
    marks_named (cleared k ∷ h) t p = ap (λ (l : List Mask). k ∷ l) (marks_named h t p)

    -- a step that is no reset
    abbrev NoReset : Report P → Type 0
    NoReset silent = Unit {0}
    NoReset (commits c) = Unit {0}
    NoReset (tells p op v) = Unit {0}
    NoReset (closes b c) = Unit {0}
    NoReset (resets k) = ⊥

    module _ (xs : List (Step P)) (ih : (s : State P) → masks_of (run P xs s).history ≡ resets_of G D (struck P xs s)) (s : State P) where
      other_masks : {A : Type 0} (x : Step P) (f : A → Done P) (q : OrRefusal A) →
          ((r : List (Step P)) → resets_of G D (x ∷ r) ≡ resets_of G D r) → ((a : A) → NoReset (f a).0) →
          masks_of (follow P (and_then q f) s (run P xs)).history ≡ resets_of G D (struck_if P (and_then q f) x s (struck P xs))
      other_masks x f (refused n) e i = ih s
      other_masks x f (accepted a) e i = by (f a).0 (i a) ∙ sym (e (struck P xs (f a).1))
        where
          by : (o : Report P) → NoReset o → masks_of (follow P (accepted (o, (f a).1)) s (run P xs)).history ≡ resets_of G D (struck P xs (f a).1)
          by silent j = ih (f a).1
          by (commits c) j = ih (f a).1
          by (tells p op v) j = ih (f a).1
          by (closes b c) j = ih (f a).1
          by (resets k) j = absurd j

      reset_masks : (k : Mask) (q : OrRefusal (Metering G)) →
          let o = and_then q (did_reset P k s) in
          masks_of (follow P o s (run P xs)).history ≡ resets_of G D (struck_if P o (reset k) s (struck P xs))
      reset_masks k (refused n) = ih s
      reset_masks k (accepted m) = ap (λ (l : List Mask). k ∷ l) (ih (did_reset P k s m).1)

    masks_run : (xs : List (Step P)) (s : State P) → masks_of (run P xs s).history ≡ resets_of G D (struck P xs s)
    masks_run [] s = refl
    masks_run (at_port none op ∷ r) s = masks_run r s
    masks_run (at_port (some p) (edit e) ∷ r) s =
        other_masks r (masks_run r) s (at_port (some p) (edit e)) (did_edit P p s) (P.edited (on s.desks p) e) (λ r. refl) (λ d. tt)
    masks_run (at_port (some p) commit ∷ r) s =
        other_masks r (masks_run r) s (at_port (some p) commit) (did_commit P p s) (P.finished (on s.desks p)) (λ r. refl) (λ c. tt)
    masks_run (at_port (some p) drop_card ∷ r) s =
        other_masks r (masks_run r) s (at_port (some p) drop_card) (did_drop P p s) (P.discarded (on s.desks p)) (λ r. refl) (λ u. tt)
    masks_run (at_port (some p) (hold k) ∷ r) s =
        other_masks r (masks_run r) s (at_port (some p) (hold k)) (did_hold P p k s) (P.copy k s.meter) (λ r. refl) (λ h. tt)
    masks_run (at_port (some p) (read a) ∷ r) s =
        other_masks r (masks_run r) s (at_port (some p) (read a)) (did_read P p a s) (P.look (on s.holds p) a) (λ r. refl) (λ v. tt)
    masks_run (block b ∷ r) s = other_masks r (masks_run r) s (block b) (did_block P b s) (P.feed s.meter b) (λ r. refl) (λ w. tt)
    masks_run (reset k ∷ r) s = reset_masks r (masks_run r) s k (P.clear s.meter k)

    pub resets_are : (blank : Card) (w : Work) (a : Watch) (xs : List (Step P)) → ResetsAre G D blank w a xs
    resets_are blank w a xs =
        let s = fresh P (newly G blank w a) in
        marks_named (run P xs s).history none (outset G w) ∙ masks_run xs s
