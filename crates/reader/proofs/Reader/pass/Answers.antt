-- `Reader::pass` meets its contract.
use borrow.Author.Tests.{le-leb, lt-leb}
use Rattle.reader.specs.Walk.{entry_step}
use borrow.Author.Rules.{rules}
use Rattle.reader.proofs.Reader.pass.Goals as goal

pub returns-then-end-self : goal.returns-then-end-self
unfolding entry_step
returns-then-end-self c = rw (le-leb _ _ c.if-end-self.true) (search rules)

pub returns : goal.returns
unfolding entry_step
returns c = rw (lt-leb _ _ c.if-end-self.false) (search rules)
