-- `slot_off` meets its contract.
use borrow.Author.Tests.{lt-leb, le-leb}
use Rattle.port.specs.Reading.{slot_off}
use Rattle.port.proofs.slot_off.Goals as goal

pub returns-then-k-lt-MIN1 : goal.returns-then-k-lt-MIN1
unfolding slot_off
returns-then-k-lt-MIN1 c = simp (lt-leb _ _ c.if-k-lt-MIN1.true)

pub returns : goal.returns
unfolding slot_off
returns c = simp (le-leb _ _ c.if-k-lt-MIN1.false)
