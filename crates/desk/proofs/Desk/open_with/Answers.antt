-- `open_with` meets its contract.
use mathlib.Core.Path.{sym, ◌∙◌}
use Rattle.desk.specs.Desks.{opening}
use Rattle.desk.proofs.Desk.open_with.Goals as goal

pub returns-then-self : goal.returns-then-self
unfolding opening
returns-then-self c = simp c.if-self.true

pub returns-then-is_serial : goal.returns-then-is_serial
unfolding opening
returns-then-is_serial c = simp (c.begun.ensures, c.of.ensures, c.if-self.false, sym c.is_serial.ensures ∙ c.if-is_serial.true)

pub returns : goal.returns
unfolding opening
returns c = simp (c.if-self.false, sym c.is_serial.ensures ∙ c.if-is_serial.false)
