-- VRMS, and IRMS of each source, of every interval are roots of the mean squares of its samples.
use Rattle.std.proofs.Common.{◌≡◌, ℕ, suc, ◌-◌, ◌*◌, ◌/◌, Bool, List, [], ◌∷◌, length, get_or, pos, sym, refl, ap, subst}
use Rattle.card.specs.declared.Card.{Card}
use Rattle.sample.specs.Fields.{irmsoffs, squelch}
use Rattle.source.specs.declared.Multipliers.{Multipliers}
use Rattle.source.specs.Sources.{multipliers_of}
use Rattle.sample.specs.declared.Inputs.{Inputs}
use Rattle.sample.specs.Sums.{Sample}
use Rattle.rules.specs.Rms.{RootSquelched}
use Rattle.rules.specs.Source.{vrms_of, figures_of}
use Rattle.rules.proofs.Places.{irms_at}
use Rattle.rules.proofs.Rms.{vrms_root, irms_root}
use Rattle.interval.specs.declared.Settings.{Settings}
use Rattle.interval.specs.declared.Source.{Source}
use Rattle.interval.specs.declared.Closed.{Closed}
use Rattle.interval.specs.Whole.{worked, voltage_squares, flow_of, sums_of, interval_of}
use Rattle.interval.specs.Close.{closed_of, registers_after, source_after, results_of}
use Rattle.interval.specs.Rms.{current_square, RmsOf}
use Rattle.interval.proofs.Wholes.{source_whole}

-- a sample is worked into one
pub worked_long : (c : Card) (m : Multipliers) (before : Inputs) (xs : List Sample) → length (worked c m before xs) ≡ length xs
unfolding worked
worked_long c m before [] = refl
worked_long c m before (x ∷ xs) = ap suc (worked_long c m x.1 xs)

-- IRMS of a source after an interval, whatever it showed before
source_rms : (c : Card) (m : Multipliers) (before : Inputs) (xs : List Sample) (v b : ℕ) (old : Source) →
    RootSquelched (current_square c m before xs) (squelch c) (get_or (source_after c v (flow_of (worked c m before xs)) (length xs) b old).figures 0 (pos 0))
unfolding source_after flow_of
source_rms c m before xs v b old =
    let f = flow_of (worked c m before xs) in
    let n = length xs in
    let less = irmsoffs c * irmsoffs c in
    let shown = get_or (figures_of c v f n) 0 (pos 0) in
    let i : RootSquelched (f.ii / n - less) (squelch c) shown = subst (RootSquelched (f.ii / n - less) (squelch c)) (sym (irms_at c v f n)) (irms_root c f n) in
    subst (λ (k : ℕ). RootSquelched (f.ii / k - less) (squelch c) shown) (sym (worked_long c m before xs)) i

pub interval_rms : (first : Bool) (t : Settings) (c : Card) (before : Inputs) (xs : List Sample) (old : Closed) →
    RmsOf c t.config before xs (interval_of first t c before xs old)
unfolding interval_of closed_of registers_after sums_of voltage_squares
interval_rms first t c before xs old =
    let v = vrms_of (voltage_squares c xs) (length xs) in
    record {
      vrms = vrms_root (voltage_squares c xs) (length xs);
      irms = λ w.
          let m = multipliers_of w t.config in
          subst (λ (s : Source). RootSquelched (current_square c m before xs) (squelch c) (get_or s.figures 0 (pos 0)))
          (sym (source_whole first t c before xs old w)) (source_rms c m before xs v t.b (results_of w old.regs));
    }
