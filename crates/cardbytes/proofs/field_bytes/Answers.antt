-- `cardbytes::field_bytes` meets its contract.
use mathlib.Core.Path.{ap, ◌∙◌}
use mir.Facts.{to_z-of_z}
use Rattle.card.specs.Cards.{three_bytes}
use Rattle.cardbytes.proofs.field_bytes.Goals as goal

pub returns : goal.returns
returns c = c.three_bytes.ensures ∙ ap three_bytes (rw (to_z-of_z c.ranges.v) at c.last_24.ensures.0)
