-- `card_behind` meets its contract.
use Rattle.meter.specs.Inside.{card_behind}
use Rattle.meter.proofs.Meter.card_behind.Goals as goal

pub returns-then-self : goal.returns-then-self
unfolding card_behind
returns-then-self c = rw c.if-self.true

pub returns-else-self : goal.returns-else-self
unfolding card_behind
returns-else-self c = rw c.if-self.false
