-- Each closed interval is worked with one card: the last one committed before its first sample.
use mathlib.Core.Path.{◌≡◌, refl, ap, sym, ◌∙◌}
use mathlib.Core.List.{List, [], ◌∷◌, ◌++◌}
use mathlib.Core.Option.{Option, none, some}
use Rattle.steps.specs.Answers.{OrRefusal, refused, accepted, and_then, or_as_before}
use Rattle.steps.specs.Parts.{Parts}
use Rattle.steps.specs.Module.{Step, fresh}
use Rattle.steps.specs.Run.{Event, committed, fed, cleared, run}
use Rattle.steps.specs.Gauge.{Gauge, Ports, Metering, newly, latest, samples, watches, passes, parts_of}
use Rattle.steps.specs.OneCard.{tag_block, tagged, Interval, closed_all, Place, intervals, outset, place_after, OneCardHistory, OneCard}
use Rattle.steps.specs.History.{played, play}
use Rattle.steps.proofs.History.{history_decides}
use Rattle.steps.proofs.Cutting.{Match, match_wait, under, samples_cut, intervals_append}

module _ (G : Gauge) (D : Ports (Metering G) G.Card) where
  open G use {Card, Sample, Work, Closed, Watch, samples_of, clear}

  abbrev P : Parts
  P = parts_of G D

  abbrev Rules : List (Event P) → Type 0
  Rules h = (m : Metering G) (p : Place G) (t : Option Card) → latest G m.intervals ≡ t → Match G m.intervals p.left p.running →
      play P h m ≡ closed_all G (intervals G (tagged G D t h) p) p.left

  module _ (h : List (Event P)) (ih : Rules h) (m : Metering G) (p : Place G) where
    fed_rules : (r : OrRefusal (List Sample)) (t : Option Card) → latest G m.intervals ≡ t → Match G m.intervals p.left p.running →
        played P (passes G r t m) m (play P h) ≡ closed_all G (intervals G (tag_block G t r (tagged G D t h)) p) p.left
    fed_rules (refused n) t k q = ih m p t k q
    fed_rules (accepted xs) none k q = ih m p none k q
    fed_rules (accepted xs) (some c) k q =
        let r = samples G xs m.intervals in
        let cut = samples_cut G c xs m.intervals p k q in
        let q' = place_after G (under G c xs) p in
        let rest = tagged G D (some c) h in
        let m' : Metering G = record { intervals = r.0; watch = watches G xs m.intervals m.watch } in
        ap (λ (l : List Closed). r.1 ++ l) (ih m' q' (some c) cut.last cut.match)
        ∙ sym (cut.closes (intervals G rest q'))
        ∙ ap (λ (is : List (Interval G)). closed_all G is p.left) (sym (intervals_append G (under G c xs) rest p))

    -- a reset leaves the intervals as they are
    cleared_rules : (r : OrRefusal Watch) (t : Option Card) → latest G m.intervals ≡ t → Match G m.intervals p.left p.running →
        play P h (or_as_before (and_then r (λ a. record { intervals = m.intervals; watch = a })) m) ≡ closed_all G (intervals G (tagged G D t h) p) p.left
    cleared_rules (refused n) t k q = ih m p t k q
    cleared_rules (accepted a) t k q = ih (record { intervals = m.intervals; watch = a }) p t k q

  rules : (h : List (Event P)) → Rules h
  rules [] m p t k q = refl
  rules (committed c ∷ h) m p t k q = rules h (P.wait c m) p (some c) refl (match_wait G c m.intervals p.left p.running q)
  rules (fed b ∷ h) m p t k q = rw k (fed_rules h (rules h) m p (samples_of b) t k q)
  rules (cleared k ∷ h) m p t e q = cleared_rules h (rules h) m p (clear m.watch k) t e q

  pub one_card_history : (blank : Card) (w : Work) (a : Watch) (h : List (Event P)) → OneCardHistory G D blank w a h
  one_card_history blank w a h = rules h (newly G blank w a) (outset G w) none refl (refl, refl)

  pub one_card : (blank : Card) (w : Work) (a : Watch) (xs : List (Step P)) → OneCard G D blank w a xs
  one_card blank w a xs =
      let s = fresh P (newly G blank w a) in
      history_decides P s xs ∙ one_card_history blank w a (run P xs s).history
