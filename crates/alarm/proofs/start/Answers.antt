-- `start` meets its contract.
use mathlib.Core.Path.{sym, ◌∙◌}
use Rattle.alarm.specs.Starting.{starting}
use Rattle.alarm.proofs.start.Goals as goal

pub limits-requires : goal.limits-requires
limits-requires c = sym c.ok.ensures ∙ c.if-ok.true

pub returns-then-ok : goal.returns-then-ok
unfolding starting
returns-then-ok c = simp (c.fresh.ensures, c.limits.ensures, sym c.ok.ensures ∙ c.if-ok.true)

pub returns : goal.returns
unfolding starting
returns c = simp (sym c.ok.ensures ∙ c.if-ok.false)
