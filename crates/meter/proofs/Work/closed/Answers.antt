-- `closed` meets its contract.
use Rattle.meter.specs.Core.{closed_work, last_of}
use Rattle.meter.proofs.Work.closed.Goals as goal

pub returns : goal.returns
unfolding closed_work last_of
returns c = rw (c.emptied-none.ensures, c.next-last.ensures)
