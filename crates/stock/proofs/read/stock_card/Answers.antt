-- `stock::read::stock_card` meets its contract.
use mathlib.Core.Path.{ap, ◌∙◌}
use Prim.Native.Nat.{ℕ}
use Rattle.std.specs.Prelude.{Option, unwrap_or}
use Rattle.section.proofs.Sections.{placed_or_none}
use Rattle.stock.proofs.read.stock_card.Goals as goal

pub returns : goal.returns
returns c = c.unwrap_or.ensures ∙ ap (λ (o : Option ℕ). unwrap_or o 0) (rw c.cards.ensures.0 at c.place.ensures) ∙ placed_or_none _ _ _
