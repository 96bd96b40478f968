-- `crest` meets its contract.
use borrow.Author.Tests.{eq-eqb, ne_eqb}
use Rattle.rules.specs.Rules.{crest_of}
use Rattle.rules.proofs.crest.Goals as goal

pub returns-then-irms-eq0 : goal.returns-then-irms-eq0
unfolding crest_of
returns-then-irms-eq0 c = rw (eq-eqb _ _ c.if-irms-eq0.true)

pub returns : goal.returns
unfolding crest_of
returns c = rw (ne_eqb _ _ c.if-irms-eq0.false) c.cap.ensures
