-- `begun` meets its contract.
use borrow.Author.Tests.{eq-eqb, ne_eqb}
use Rattle.meter.specs.Inside.{begun_of}
use Rattle.meter.proofs.Meter.begun.Goals as goal

pub returns-then-self : goal.returns-then-self
unfolding begun_of
returns-then-self c =
    rw (eq-eqb _ _ c.if-self-eq0.true, c.if-self.true)

pub returns-else-self : goal.returns-else-self
unfolding begun_of
returns-else-self c = rw (eq-eqb _ _ c.if-self-eq0.true, c.if-self.false)

pub returns-else-self-eq0 : goal.returns-else-self-eq0
unfolding begun_of
returns-else-self-eq0 c = rw (ne_eqb _ _ c.if-self-eq0.false)
