-- `finish` meets its contract.
use mathlib.Core.Path.{sym, ◌∙◌}
use Rattle.std.proofs.lemmas.Bool.{not-true, not-false}
use Rattle.desk.specs.Desks.{finished}
use Rattle.desk.proofs.Desk.finish.Goals as goal

pub returns-then-not-self : goal.returns-then-not-self
unfolding finished
returns-then-not-self c = simp (not-true _ c.if-not-self.true)

pub returns-then-all_written : goal.returns-then-all_written
unfolding finished
returns-then-all_written c = simp (c.card.ensures, c.shut.ensures, sym c.all_written.ensures ∙ c.if-all_written.true, not-false _ c.if-not-self.false)

pub returns : goal.returns
unfolding finished
returns c = simp (sym c.all_written.ensures ∙ c.if-all_written.false, not-false _ c.if-not-self.false)
