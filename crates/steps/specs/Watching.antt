-- What watches the samples, from the history alone: it sees each accepted sample with the card of its interval, and meets each reset where
-- it stood.
use Rattle.std.specs.Prelude.{◌≡◌, cond, length}
use mathlib.Core.List.{List, [], ◌∷◌, ◌++◌, map, foldl}
use Rattle.std.proofs.Math.Option.{Option, none, some}
use Rattle.steps.specs.Answers.{or_as_before}
use Rattle.steps.specs.Module.{Step, at_port, block, reset, fresh}
use Rattle.steps.specs.Run.{Event, committed, fed, cleared, run}
use Rattle.steps.specs.Shorter.{struck}
use Rattle.steps.specs.Gauge.{Gauge, Ports, Metering, newly, parts_of}
use Rattle.steps.specs.OneCard.{Tagged, tag_block, tagged, Interval, gathered, Place, cut_at, intervals, outset, place_after}

module _ (G : Gauge) where
  open G use {Card, Sample, Work, Watch, Mask, samples_of, breaks, sees, clear}

  -- ---- What it meets: samples, each with a card, and resets.

  pub data Mark : Type 0 where
    seen : Card → Sample → Mark
    named : Mask → Mark

  -- the card of the interval that a sample joins, or its own where it is an interval's first
  abbrev pub card_for : Option (Interval G) → Work → Tagged G → Card
  card_for none w t = t.0
  card_for (some i) w t = cond (breaks i.card (length i.samples) (gathered G i w) t.1) t.0 i.card

  -- samples as they are cut into intervals
  abbrev pub seen_of : List (Tagged G) → Place G → List Mark
  seen_of [] p = []
  seen_of (t ∷ ts) p = seen (card_for p.running p.left t) t.1 ∷ seen_of ts (cut_at G p.running p.left t).0

  -- the marks of a history, when c is the card committed last and the cutting stands at p
  abbrev pub marked : (D : Ports (Metering G) Card) → Option Card → List (Event (parts_of G D)) → Place G → List Mark
  marked D c [] p = []
  marked D c (committed d ∷ h) p = marked D (some d) h p
  marked D c (fed b ∷ h) p = let ts = tag_block G c (samples_of b) [] in seen_of ts p ++ marked D c h (place_after G ts p)
  marked D c (cleared k ∷ h) p = named k ∷ marked D c h p

  -- ---- What it makes of them (a refused reset does not occur in a history).

  abbrev pub meets : Watch → Mark → Watch
  meets a (seen c x) = sees c a x
  meets a (named k) = or_as_before (clear a k) a

  -- So it is, for every sequence of steps from a fresh module.
  abbrev pub WatchHistory : (D : Ports (Metering G) Card) → Card → Work → Watch → List (Step (parts_of G D)) → Type 0
  WatchHistory D blank w a xs =
      let r = run (parts_of G D) xs (fresh (parts_of G D) (newly G blank w a)) in
      r.end.meter.watch ≡ foldl meets a (marked D none r.history (outset G w))

  -- ---- The samples among the marks are those of the closed intervals and of the one that is open, each with the card of its interval.

  abbrev pub sampled : List Mark → List (Tagged G)
  sampled [] = []
  sampled (seen c x ∷ r) = (c, x) ∷ sampled r
  sampled (named k ∷ r) = sampled r

  abbrev pub with_card : Interval G → List (Tagged G)
  with_card i = map (λ (x : Sample). (i.card, x)) i.samples

  abbrev pub with_cards : List (Interval G) → List (Tagged G)
  with_cards [] = []
  with_cards (i ∷ is) = with_card i ++ with_cards is

  abbrev pub with_card_if : Option (Interval G) → List (Tagged G)
  with_card_if none = []
  with_card_if (some i) = with_card i

  abbrev pub MarksAre : (D : Ports (Metering G) Card) → Card → Work → Watch → List (Step (parts_of G D)) → Type 0
  MarksAre D blank w a xs =
      let h = (run (parts_of G D) xs (fresh (parts_of G D) (newly G blank w a))).history in
      let ts = tagged G D none h in
      sampled (marked D none h (outset G w)) ≡ with_cards (intervals G ts (outset G w)) ++ with_card_if (place_after G ts (outset G w)).running

  -- ---- The resets among the marks are the accepted ones, in their order.

  abbrev pub named_of : List Mark → List Mask
  named_of [] = []
  named_of (seen c x ∷ r) = named_of r
  named_of (named k ∷ r) = k ∷ named_of r

  -- what the resets among these steps name
  abbrev pub resets_of : (D : Ports (Metering G) Card) → List (Step (parts_of G D)) → List Mask
  resets_of D [] = []
  resets_of D (block b ∷ r) = resets_of D r
  resets_of D (at_port o op ∷ r) = resets_of D r
  resets_of D (reset k ∷ r) = k ∷ resets_of D r

  abbrev pub ResetsAre : (D : Ports (Metering G) Card) → Card → Work → Watch → List (Step (parts_of G D)) → Type 0
  ResetsAre D blank w a xs =
      let s = fresh (parts_of G D) (newly G blank w a) in
      named_of (marked D none (run (parts_of G D) xs s).history (outset G w)) ≡ resets_of D (struck (parts_of G D) xs s)
