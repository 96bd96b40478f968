-- Each closed interval is worked with one card: the last one committed before its first sample. The intervals are worked out here from
-- the history alone, the committed cards and the accepted blocks in their order; no meter and no card in force occurs, and no reset counts.
use Rattle.std.specs.Prelude.{◌≡◌, cond, length}
use mathlib.Core.List.{List, [], ◌∷◌, ◌++◌, map, foldl}
use Rattle.std.proofs.Math.Option.{Option, none, some}
use Rattle.steps.specs.Answers.{OrRefusal, refused, accepted}
use Rattle.steps.specs.Module.{Step, at_port, block, reset, fresh}
use Rattle.steps.specs.Run.{Event, committed, fed, cleared, run}
use Rattle.steps.specs.Shorter.{struck}
use Rattle.steps.specs.History.{play}
use Rattle.steps.specs.Gauge.{Gauge, Ports, Metering, newly, block_samples, parts_of}

module _ (G : Gauge) where
  open G use {Card, Sample, Work, Closed, Watch, samples_of, start_interval, add_sample, breaks, full, close_interval}

  -- ---- Each sample goes with the card committed last before it.

  abbrev pub Tagged : Type 0
  Tagged = Card × Sample

  abbrev pub tag_block : Option Card → OrRefusal (List Sample) → List Tagged → List Tagged
  tag_block c (refused n) rest = rest
  tag_block none (accepted xs) rest = rest
  tag_block (some c) (accepted xs) rest = map (λ (x : Sample). (c, x)) xs ++ rest

  abbrev pub tagged : (D : Ports (Metering G) Card) → Option Card → List (Event (parts_of G D)) → List Tagged
  tagged D c [] = []
  tagged D c (committed d ∷ h) = tagged D (some d) h
  tagged D c (fed b ∷ h) = tag_block c (samples_of b) (tagged D c h)
  tagged D c (cleared k ∷ h) = tagged D c h

  -- ---- An interval is one card and its samples, all worked with that card.

  pub record Interval : Type 0 where
    pub card : Card
    pub samples : List Sample

  -- its sums; w is what the intervals before it left
  abbrev pub gathered : Interval → Work → Work
  gathered i w = foldl (add_sample i.card) (start_interval i.card w) i.samples

  abbrev pub closed_with : Interval → Work → Work × Closed
  closed_with i w = close_interval i.card (gathered i w)

  abbrev pub closed_all : List Interval → Work → List Closed
  closed_all [] w = []
  closed_all (i ∷ is) w = let r = closed_with i w in r.1 ∷ closed_all is r.0

  -- ---- The samples are cut into intervals; the card of an interval is that of its first sample.

  abbrev pub first_of : Tagged → Interval
  first_of t = record { card = t.0; samples = t.1 ∷ [] }

  abbrev pub more_of : Interval → Tagged → Interval
  more_of i t = record { card = i.card; samples = i.samples ++ (t.1 ∷ []) }

  -- where the cutting stands: what the closed intervals left, and the interval that is open, if one is
  pub record Place : Type 0 where
    pub left : Work
    pub running : Option Interval

  -- the interval i is closed if it is full, and is else the one that is open
  abbrev pub cut_if_full : Interval → Work → Place × List Interval
  cut_if_full i w =
      cond (full i.card (length i.samples) (gathered i w))
      (record { left = (closed_with i w).0; running = none }, i ∷ [])
      (record { left = w; running = some i }, [])

  abbrev pub cut_before : Interval → Work → Tagged → Place × List Interval
  cut_before i w t = let r = cut_if_full (first_of t) (closed_with i w).0 in (r.0, i ∷ r.1)

  abbrev pub cut_at : Option Interval → Work → Tagged → Place × List Interval
  cut_at none w t = cut_if_full (first_of t) w
  cut_at (some i) w t = cond (breaks i.card (length i.samples) (gathered i w) t.1) (cut_before i w t) (cut_if_full (more_of i t) w)

  -- the closed intervals
  abbrev pub intervals : List Tagged → Place → List Interval
  intervals [] p = []
  intervals (t ∷ ts) p = let r = cut_at p.running p.left t in r.1 ++ intervals ts r.0

  -- before the first sample
  abbrev pub outset : Work → Place
  outset w = record { left = w; running = none }

  -- ---- So it is, for every history and for every sequence of steps from a fresh module.

  abbrev pub OneCardHistory : (D : Ports (Metering G) Card) → Card → Work → Watch → List (Event (parts_of G D)) → Type 0
  OneCardHistory D blank w a h = play (parts_of G D) h (newly G blank w a) ≡ closed_all (intervals (tagged D none h) (outset w)) w

  abbrev pub OneCard : (D : Ports (Metering G) Card) → Card → Work → Watch → List (Step (parts_of G D)) → Type 0
  OneCard D blank w a xs =
      let r = run (parts_of G D) xs (fresh (parts_of G D) (newly G blank w a)) in
      r.closed ≡ closed_all (intervals (tagged D none r.history) (outset w)) w

  -- ---- No sample is lost and none is taken twice: those of the closed intervals and of the one that is open are the samples of all
  -- accepted blocks, in their order.

  abbrev pub samples_of_all : List Interval → List Sample
  samples_of_all [] = []
  samples_of_all (i ∷ is) = i.samples ++ samples_of_all is

  abbrev pub still_open : Option Interval → List Sample
  still_open none = []
  still_open (some i) = i.samples

  abbrev pub place_after : List Tagged → Place → Place
  place_after [] p = p
  place_after (t ∷ ts) p = place_after ts (cut_at p.running p.left t).0

  -- the samples of the blocks among these steps
  abbrev pub samples_fed : (D : Ports (Metering G) Card) → List (Step (parts_of G D)) → List Sample
  samples_fed D [] = []
  samples_fed D (block b ∷ r) = block_samples G (samples_of b) ++ samples_fed D r
  samples_fed D (at_port o op ∷ r) = samples_fed D r
  samples_fed D (reset k ∷ r) = samples_fed D r

  abbrev pub AllSamples : (D : Ports (Metering G) Card) → Card → Work → Watch → List (Step (parts_of G D)) → Type 0
  AllSamples D blank w a xs =
      let s = fresh (parts_of G D) (newly G blank w a) in
      let ts = tagged D none (run (parts_of G D) xs s).history in
      samples_of_all (intervals ts (outset w)) ++ still_open (place_after ts (outset w)).running ≡ samples_fed D (struck (parts_of G D) xs s)
