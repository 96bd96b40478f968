-- `none` meets its contract.
use Rattle.interval.proofs.Closed.none.Goals as goal

pub returns : goal.returns
returns c = rw (c.none-serial.ensures, c.none-nothing.ensures, c.unclipped.ensures)
