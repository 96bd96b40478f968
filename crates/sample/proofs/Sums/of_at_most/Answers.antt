-- `of_at_most` meets its contract.
use Rattle.sample.specs.Sums.{of_at_most}
use borrow.Author.Tests.{le-leb, lt-leb}
use Rattle.sample.proofs.Sums.of_at_most.Goals as goal

pub within-a-requires : goal.within-a-requires
within-a-requires c = c.if-n-le4096.true

pub within-b-requires : goal.within-b-requires
within-b-requires c = c.if-n-le4096.true

pub returns-then-n-le4096 : goal.returns-then-n-le4096
unfolding of_at_most
returns-then-n-le4096 c = rw (c.within-a.ensures, c.within-b.ensures, c.within-clips.ensures, le-leb _ _ c.if-n-le4096.true)

pub returns : goal.returns
unfolding of_at_most
returns c = rw (lt-leb _ _ c.if-n-le4096.false)
