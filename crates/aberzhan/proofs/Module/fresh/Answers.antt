-- `fresh` meets its contract.
use Rattle.aberzhan.specs.Module.{fresh_module}
use Rattle.aberzhan.proofs.Module.fresh.Goals as goal

pub returns : goal.returns
unfolding fresh_module
returns c = simp (c.nothing-nothing.ensures, c.shut-shut.ensures)
