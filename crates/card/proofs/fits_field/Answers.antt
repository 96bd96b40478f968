-- `card::fits_field` meets its contract: the tables are those of the definition.
use Rattle.std.proofs.Common.{rules}
use Rattle.card.specs.Fields.{fits_field, lows, highs}
use Rattle.card.proofs.fits_field.Goals as goal

pub returns : goal.returns
unfolding fits_field lows highs
returns c = search rules
