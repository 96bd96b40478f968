-- `none` meets its contract.
use Rattle.sample.proofs.Sums.none.Goals as goal

pub returns : goal.returns
returns c = rw (c.none-nothing.ensures, c.unclipped.ensures)
