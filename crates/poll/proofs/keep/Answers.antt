-- `poll::keep` meets its contract.
use mir.Facts.{to_z-of_z}
use borrow.Author.Tests.{lt-ltb, le-ltb}
use Rattle.poll.specs.Inside.{keeping}
use Rattle.poll.proofs.keep.Goals as goal

pub returns-then-n-lt84 : goal.returns-then-n-lt84
unfolding keeping
returns-then-n-lt84 c = simp (lt-ltb _ _ c.if-n-lt84.true, to_z-of_z c.ranges.v)

pub returns : goal.returns
unfolding keeping
returns c = simp (le-ltb _ _ c.if-n-lt84.false)
