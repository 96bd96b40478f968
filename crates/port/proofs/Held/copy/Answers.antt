-- `copy` meets its contract.
use Rattle.port.specs.Holds.{copy_of, copied}
use Rattle.port.proofs.Held.copy.Goals as goal

pub returns-then-any : goal.returns-then-any
unfolding copied copy_of
returns-then-any c = simp c.if-any.true

pub returns : goal.returns
unfolding copied
returns c = simp c.if-any.false
