-- `cardbytes::three_bytes` meets its contract.
use mathlib.Core.Path.{refl}
use Rattle.card.specs.Cards.{three_bytes}
use Rattle.cardbytes.proofs.three_bytes.Goals as goal

pub returns : goal.returns
unfolding three_bytes
returns c = refl
