-- C1 to C12 hold for IA and for IB, and so do the figures of no load, of clipped samples and of split-phase boards: each whole table computes to what stands beside it.
use Rattle.std.proofs.Common.{◌≡◌, ℕ, List, map, ℤ, refl}
use Rattle.range.specs.Range.{in24, outside24, clipped, held_within}
use Rattle.number.specs.Sign.{with_sign, lessened}
use Rattle.number.specs.Rounding.{floor_div, toward_zero}
use Rattle.root.specs.Root.{root_of, root_by}
use Rattle.source.specs.Sources.{Current, IA, IB, multiplier, multipliers_in, multipliers_of, weighed, uses_both, blended}
use Rattle.sample.specs.Sample.{scaled, corrected, was_clipped, mixed, voltage, input, phased, voltage_clipped, input_clipped, source_current}
use Rattle.sample.specs.Sums.{joined, counted, previous, summed, added, added_all}
use Rattle.rules.specs.Rules.{rms, below_squelch, active_of, apparent_of, factor_of, crest_of}
use Rattle.rules.specs.Source.{vrms_of, current_root, is_squelched, irms_of, watt_of, ipeak_of, six, figures_of}
use Rattle.energy.specs.Energies.{advanced, joined_by, plus_after, minus_after}
use Rattle.interval.specs.Close.{source_after, seven_of, registers_after, number_after, closed_of}
use Rattle.interval.specs.Split.{split, split_figures}
use Rattle.interval.specs.Figures.{plain, having, at_input, closing, vrms, figure, irms, watt, currents, volts, both_lowest, minus_five, once, twice, beyond, figures, shown_row, at_full, fives, only_peak, no_load_figures, clipped_in, doubled, by_half_more, clip_figures}

pub c1_to_c12 : (w : Current) → map (λ (f : ℤ × ℤ). f.0) (figures w) ≡ map (λ (f : ℤ × ℤ). f.1) (figures w)
unfolding figures plain having closing vrms figure irms watt currents volts both_lowest minus_five once twice beyond voltage input source_current multiplier multipliers_in multipliers_of weighed uses_both blended at_input previous phased joined counted summed added added_all scaled corrected mixed clipped held_within floor_div toward_zero with_sign lessened root_of root_by rms below_squelch active_of apparent_of factor_of crest_of advanced joined_by plus_after minus_after vrms_of current_root is_squelched irms_of watt_of ipeak_of six figures_of source_after seven_of registers_after number_after closed_of
c1_to_c12 IA = refl
c1_to_c12 IB = refl

pub no_load_figures_lem : (w : Current) → map (λ (f : List ℤ × List ℤ). f.0) (no_load_figures w) ≡ map (λ (f : List ℤ × List ℤ). f.1) (no_load_figures w)
unfolding no_load_figures shown_row at_full fives only_peak plain having closing figure irms watt voltage input source_current multiplier multipliers_in multipliers_of weighed uses_both blended at_input previous phased joined counted summed added added_all scaled corrected mixed clipped held_within floor_div toward_zero with_sign lessened root_of root_by rms below_squelch active_of apparent_of factor_of crest_of advanced joined_by plus_after minus_after vrms_of current_root is_squelched irms_of watt_of ipeak_of six figures_of source_after seven_of registers_after number_after closed_of
no_load_figures_lem IA = refl
no_load_figures_lem IB = refl

pub clip_figures_lem : (w : Current) → map (λ (f : List ℕ × List ℕ). f.0) (clip_figures w) ≡ map (λ (f : List ℕ × List ℕ). f.1) (clip_figures w)
unfolding clip_figures clipped_in doubled by_half_more plain having closing voltage input source_current multiplier multipliers_in multipliers_of weighed uses_both blended at_input voltage_clipped input_clipped previous phased joined counted summed added added_all scaled corrected was_clipped mixed in24 outside24 clipped held_within floor_div closed_of
clip_figures_lem IA = refl
clip_figures_lem IB = refl

pub split_figures_lem : map (λ (f : List ℤ × List ℤ). f.0) split_figures ≡ map (λ (f : List ℤ × List ℤ). f.1) split_figures
unfolding split_figures split plain having voltage input voltage_clipped input_clipped was_clipped in24 outside24 source_current multiplier multipliers_in multipliers_of weighed uses_both blended previous phased joined counted summed added added_all scaled corrected mixed clipped held_within floor_div toward_zero with_sign lessened root_of root_by rms below_squelch active_of apparent_of factor_of crest_of advanced joined_by plus_after minus_after vrms_of current_root is_squelched irms_of watt_of ipeak_of six figures_of source_after seven_of registers_after number_after closed_of
split_figures_lem = refl
