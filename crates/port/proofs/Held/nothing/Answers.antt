-- `nothing` meets its contract.
use Rattle.port.proofs.Held.nothing.Goals as goal

pub returns : goal.returns
returns c = simp c.none.ensures
