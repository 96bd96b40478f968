-- The root and the card's SQUELCH alone decide whether a source is squelched, and no energy comes of one that is.
use Rattle.std.proofs.Common.{◌≡◌, ℕ, ◌-◌, ◌*◌, ◌/◌, Bool, true, List, length, get_or, ℤ, pos, ap, ◌∙◌, subst}
use Rattle.root.specs.Root.{Root}
use Rattle.card.specs.declared.Card.{Card}
use Rattle.sample.specs.Fields.{irmsoffs}
use Rattle.source.specs.declared.Multipliers.{Multipliers}
use Rattle.source.specs.Sources.{Current, multipliers_of}
use Rattle.sample.specs.declared.Inputs.{Inputs}
use Rattle.sample.specs.declared.Flow.{Flow}
use Rattle.sample.specs.Sums.{Sample}
use Rattle.rules.specs.Source.{vrms_of, figures_of, is_squelched, ipeak_of}
use Rattle.rules.proofs.Places.{peak_at, watt_at}
use Rattle.rules.proofs.NoLoad.{below_squelch_lem, not_below_squelch, squelched_figures, squelched_watt, watt_left}
use Rattle.energy.specs.Energies.{joined_by, plus_after, minus_after}
use Rattle.interval.specs.declared.Settings.{Settings}
use Rattle.interval.specs.declared.Source.{Source}
use Rattle.interval.specs.declared.Closed.{Closed}
use Rattle.interval.specs.Whole.{worked, voltage_squares, flow_of, interval_of}
use Rattle.interval.specs.Close.{source_after, figure_of}
use Rattle.interval.specs.Rms.{current_square}
use Rattle.interval.specs.NoLoad.{NoLoad, SquelchedBy}
use Rattle.interval.proofs.Wholes.{source_whole}
use Rattle.interval.proofs.Rms.{worked_long}

module _ (c : Card) (m : Multipliers) (before : Inputs) (xs : List Sample) where
  -- the root is that of the sum of the n squares
  of_sum : (root : ℕ) → Root (current_square c m before xs) root →
      Root ((flow_of (worked c m before xs)).ii / length xs - irmsoffs c * irmsoffs c) root
  unfolding flow_of
  of_sum root h = subst (λ (k : ℕ). Root ((flow_of (worked c m before xs)).ii / k - irmsoffs c * irmsoffs c) root) (worked_long c m before xs) h

module _ (first : Bool) (t : Settings) (c : Card) (before : Inputs) (xs : List Sample) (old : Closed) (w : Current) where
  abbrev m : Multipliers
  m = multipliers_of w t.config

  abbrev f : Flow
  f = flow_of (worked c m before xs)

  abbrev v : ℕ
  v = vrms_of (voltage_squares c xs) (length xs)

  -- a figure of the source, and its records of energy
  figure_is : (k : ℕ) → figure_of w k (interval_of first t c before xs old) ≡ get_or (figures_of c v f (length xs)) k (pos 0)
  unfolding source_after
  figure_is k = ap (λ (s : Source). get_or s.figures k (pos 0)) (source_whole first t c before xs old w)

  no_load : is_squelched c f (length xs) ≡ true → NoLoad w old (interval_of first t c before xs old)
  unfolding source_after plus_after minus_after joined_by
  no_load h =
      let n = length xs in
      let e = squelched_figures c f n v h in
      let p = squelched_watt c f n h in
      let is = source_whole first t c before xs old w in
      record {
        irms = figure_is 0 ∙ ap (λ (l : List ℤ). get_or l 0 (pos 0)) e;
        p = figure_is 2 ∙ ap (λ (l : List ℤ). get_or l 2 (pos 0)) e;
        s = figure_is 3 ∙ ap (λ (l : List ℤ). get_or l 3 (pos 0)) e;
        pf = figure_is 4 ∙ ap (λ (l : List ℤ). get_or l 4 (pos 0)) e;
        crest = figure_is 5 ∙ ap (λ (l : List ℤ). get_or l 5 (pos 0)) e;
        plus = ap (λ (s : Source). s.plus) is ∙ rw p;
        minus = ap (λ (s : Source). s.minus) is ∙ rw p;
      }

  pub squelched_by : SquelchedBy c t.config before xs old (interval_of first t c before xs old) w
  unfolding flow_of ipeak_of
  squelched_by =
      let n = length xs in
      record {
        below = λ root h k. no_load (below_squelch_lem c f n root (of_sum c m before xs root h) k);
        not_below = λ root h k.
            figure_is 2 ∙ watt_at c v f n ∙ watt_left c f n (not_below_squelch c f n root (of_sum c m before xs root h) k);
        peak = figure_is 1 ∙ peak_at c v f n;
      }
