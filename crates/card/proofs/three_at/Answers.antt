-- `card::three_at` meets its contract.
use native.Mathlib.Omega.{arith}
use Rattle.card.specs.Cards.{three_at}
use Rattle.card.proofs.three_at.Goals as goal

pub returns : goal.returns
unfolding three_at
returns c = rw (← c.byte_at-high.ensures, ← c.byte_at-mid.ensures, ← c.byte_at-low.ensures) (omega arith)
