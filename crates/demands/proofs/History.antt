-- Roots, squelching, clipped samples, numbers, minima and maxima of every closed interval.
use mathlib.Core.Path.{sym, subst}
use mathlib.Core.Bool.{Bool, true, false}
use mathlib.Core.List.{List, [], ◌∷◌}
use mathlib.Core.Option.{Option, none, some}
use Rattle.steps.specs.OneCard.{Interval}
use Rattle.card.specs.declared.Card.{Card}
use Rattle.sample.specs.declared.Inputs.{Inputs}
use Rattle.sample.specs.Sums.{Sample}
use Rattle.interval.specs.declared.Settings.{Settings}
use Rattle.interval.specs.declared.Closed.{Closed}
use Rattle.interval.specs.Whole.{last_raw, interval_of}
use Rattle.interval.specs.Close.{none_closed}
use Rattle.interval.specs.History.{ClosedInTurn}
use Rattle.interval.specs.Rms.{RmsOf}
use Rattle.interval.specs.NoLoad.{SquelchedBy}
use Rattle.interval.specs.Clipping.{ClippedBy}
use Rattle.interval.proofs.Rms.{interval_rms}
use Rattle.interval.proofs.NoLoad.{squelched_by}
use Rattle.interval.proofs.Clipping.{clipped_by}
use Rattle.interval.proofs.Histories.{whole_next, closes_followed}
use Rattle.meter.specs.Core.{core}
use Rattle.demands.specs.Program.{settings, closes}
use Rattle.demands.specs.Intervals.{intervals_of, raw_before, wholes}
use Rattle.demands.specs.History.{Saying, Each, EveryClose}
use Rattle.demands.proofs.Wholes.{whole_intervals}

module _ (t : Settings) where
  -- what holds of every interval holds of each of these
  each : (P : Saying) → ((fst : Bool) (c : Card) (before : Inputs) (xs : List Sample) (old : Closed) → P c before xs old (interval_of fst t c before xs old)) →
      (is : List (Interval core)) (fst : Bool) (r : Option Inputs) (old : Closed) → Each P r old is (wholes t fst r old is)
  each P all [] fst r old = tt
  each P all (i ∷ is) fst r old =
      let before = raw_before r i.samples in
      let z = interval_of fst t i.card before i.samples old in
      (all fst i.card before i.samples old, each P all is false (some (last_raw before i.samples)) z)

  in_turn_lem : (is : List (Interval core)) (fst : Bool) (r : Option Inputs) (old : Closed) → ClosedInTurn t fst old (wholes t fst r old is)
  in_turn_lem [] fst r old = tt
  in_turn_lem (i ∷ is) fst r old =
      let before = raw_before r i.samples in
      let z = interval_of fst t i.card before i.samples old in
      (whole_next fst t i.card before i.samples old, in_turn_lem is false (some (last_raw before i.samples)) z)

pub every_close : EveryClose
every_close p =
    let t = settings p in
    let is = intervals_of p in
    let e = sym (whole_intervals p).whole in
    record {
      roots =
          let P : Saying = λ c before xs old z. RmsOf c t.config before xs z in
          subst (Each P none none_closed is) e (each t P (λ fst. interval_rms fst t) is true none none_closed);
      squelching = λ w.
          let P : Saying = λ c before xs old z. SquelchedBy c t.config before xs old z w in
          subst (Each P none none_closed is) e (each t P (λ fst c before xs old. squelched_by fst t c before xs old w) is true none none_closed);
      clipping =
          let P : Saying = λ c before xs old z. ClippedBy c xs z in
          subst (Each P none none_closed is) e (each t P (λ fst. clipped_by fst t) is true none none_closed);
      followed = closes_followed t (closes p) (subst (ClosedInTurn t true none_closed) e (in_turn_lem t is true none none_closed));
    }
