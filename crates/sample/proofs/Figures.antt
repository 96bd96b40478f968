-- The figures, computed.
use mathlib.Core.Path.{◌≡◌, refl}
use mathlib.Core.List.{map}
use lib.IntN.{ℤ}
use Rattle.number.specs.Rounding.{floor_div}
use Rattle.range.specs.Range.{clipped, held_within}
use Rattle.source.specs.Sources.{multiplier, multipliers_in, multipliers_of, weighed, uses_both, blended}
use Rattle.sample.specs.Sample.{scaled, corrected, mixed, input, phased, source_current}
use Rattle.sample.specs.Figures.{half_phase, current_after, phase_figures}

pub phase_figures_lem : map (λ (f : ℤ × ℤ). f.0) phase_figures ≡ map (λ (f : ℤ × ℤ). f.1) phase_figures
unfolding phase_figures current_after half_phase source_current phased input mixed corrected scaled clipped held_within floor_div multiplier multipliers_in multipliers_of weighed uses_both blended
phase_figures_lem = refl
