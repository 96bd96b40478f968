-- `scale` meets its contract.
use mathlib.Core.Path.{◌∙◌}
use mir.Syntax.{w64}
use Rattle.number.proofs.Fits.{ranges, answer}
use Rattle.sample.specs.Sample.{scaled}
use Rattle.sample.proofs.scale.Goals as goal

pub overflow_cast-raw : goal.overflow_cast-raw
overflow_cast-raw c = search ranges

pub overflow_cast-offset : goal.overflow_cast-offset
overflow_cast-offset c = search ranges

pub overflow_sub-raw : goal.overflow_sub-raw
overflow_sub-raw c = search ranges

pub overflow_cast-gain : goal.overflow_cast-gain
overflow_cast-gain c = search ranges

pub overflow_mul-raw : goal.overflow_mul-raw
overflow_mul-raw c = search ranges

pub returns : goal.returns
unfolding scaled
returns c = answer w64 c.floor_div.type_inv (c.floor_div.ensures ∙ search ranges)
