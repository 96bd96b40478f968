-- `card::field_at` meets its contract.
use mathlib.Core.Path.{ap, ◌∙◌}
use mir.Syntax.{w32}
use mir.Facts.{to_z-of_z}
use Rattle.card.specs.Cards.{value_of, field_at}
use Rattle.card.proofs.field_at.Goals as goal

pub returns : goal.returns
unfolding field_at
returns c = to_z-of_z {w = w32} (record { sfits = c.value_of.type_inv }) ∙ c.value_of.ensures ∙ ap (value_of c.args.k) c.three_at.ensures.0
