-- The figures, computed.
use mathlib.Core.Path.{refl}
use Rattle.number.specs.Rounding.{floor_div}
use Rattle.range.specs.Range.{clipped, held_within}
use Rattle.source.specs.Sources.{multiplier, multipliers_in, multipliers_of, weighed, uses_both, blended}
use Rattle.source.specs.Figures.{sixteen, made, end_figures, SourcesFigured}

pub figured : SourcesFigured
unfolding sixteen made end_figures multiplier multipliers_in multipliers_of weighed uses_both blended floor_div clipped held_within
figured = record { every_ia = refl; every_ib = refl; s1_alone = refl; s3_alone = refl; at_the_ends = refl }
