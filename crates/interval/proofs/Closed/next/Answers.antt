-- `Closed::next` meets its contract.
use Rattle.interval.specs.Close.{closed_of, number_after}
use Rattle.interval.proofs.Closed.next.Goals as goal

pub returns : goal.returns
unfolding closed_of number_after
returns c = rw c.after-regs.ensures
