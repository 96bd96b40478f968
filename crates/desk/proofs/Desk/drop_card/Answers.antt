-- `drop_card` meets its contract.
use Rattle.desk.specs.Desks.{discarded}
use Rattle.desk.proofs.Desk.drop_card.Goals as goal

pub returns-then-self : goal.returns-then-self
unfolding discarded
returns-then-self c = simp (c.shut.ensures, c.if-self.true)

pub returns : goal.returns
unfolding discarded
returns c = simp c.if-self.false
