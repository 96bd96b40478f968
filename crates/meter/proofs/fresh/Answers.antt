-- `fresh` meets its contract. The three calls are `Serial::none`, `Sums::none` and `Closed::none`.
use Rattle.meter.specs.Starting.{fresh_of}
use Rattle.meter.proofs.fresh.Goals as goal

pub returns : goal.returns
unfolding fresh_of
returns c = simp (c.none.ensures, c.none-2.ensures, c.none-3.ensures)
