-- Of every closed interval of every program: VRMS and each source's IRMS are roots of the interval's mean squares; a source's root and the card's
-- SQUELCH alone decide whether that source is squelched, and no energy comes of it then; the interval's counts are of its own clipped samples; its
-- number counts the closes; minima and maxima are those of all that closed so far.
use Rattle.std.specs.Prelude.{List, [], ◌∷◌}
use Rattle.std.proofs.Math.Option.{Option, none, some}
use Rattle.steps.specs.OneCard.{Interval}
use Rattle.card.specs.declared.Card.{Card}
use Rattle.source.specs.Sources.{Current}
use Rattle.sample.specs.declared.Inputs.{Inputs}
use Rattle.sample.specs.Sums.{Sample}
use Rattle.interval.specs.declared.Closed.{Closed}
use Rattle.interval.specs.Whole.{last_raw}
use Rattle.interval.specs.Close.{none_closed}
use Rattle.interval.specs.Rms.{RmsOf}
use Rattle.interval.specs.NoLoad.{SquelchedBy}
use Rattle.interval.specs.Clipping.{ClippedBy}
use Rattle.interval.specs.History.{EachFollowed}
use Rattle.meter.specs.Core.{core}
use Rattle.demands.specs.Program.{Program, settings, closes}
use Rattle.demands.specs.Intervals.{intervals_of, raw_before}

-- what is said of a closed interval: of its card, the raw inputs before its first sample, its samples, what closed right before it, and itself
abbrev pub Saying : Type 1
Saying = Card → Inputs → List Sample → Closed → Closed → Type 0

-- it is so of the intervals and what they closed as, one by one; r are the raw inputs before the first, if any were seen; `old` closed before it
abbrev pub Each : Saying → Option Inputs → Closed → List (Interval core) → List Closed → Type 0
Each P r old [] [] = Unit {0}
Each P r old [] (z ∷ zs) = ⊥
Each P r old (i ∷ is) [] = ⊥
Each P r old (i ∷ is) (z ∷ zs) =
    let before = raw_before r i.samples in
    P i.card before i.samples old z × Each P (some (last_raw before i.samples)) z is zs

pub record ProgramHistory (p : Program) : Type 0 where
  pub roots : Each (λ c before xs old z. RmsOf c (settings p).config before xs z) none none_closed (intervals_of p) (closes p)
  pub squelching : (w : Current) → Each (λ c before xs old z. SquelchedBy c (settings p).config before xs old z w) none none_closed (intervals_of p) (closes p)
  pub clipping : Each (λ c before xs old z. ClippedBy c xs z) none none_closed (intervals_of p) (closes p)
  pub followed : EachFollowed (settings p) (closes p)

abbrev pub EveryClose : Type 0
EveryClose = (p : Program) → ProgramHistory p
