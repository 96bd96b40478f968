-- `past_count` meets its contract.
use borrow.Author.Tests.{eq-eqb, ne_eqb}
use Rattle.reader.proofs.past_count.Goals as goal

pub returns-then-at-end : goal.returns-then-at-end
returns-then-at-end c = rw (eq-eqb _ _ c.if-at-end.true)

pub returns-else-at-end : goal.returns-else-at-end
returns-else-at-end c = rw (ne_eqb _ _ c.if-at-end.false)
