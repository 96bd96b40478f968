-- `Module::reset` meets its contract.
use mathlib.Core.Path.{ap, ◌∙◌}
use mir.Facts.{to_z-of_z}
use Rattle.aberzhan.specs.Module.{resetting, reset_of}
use Rattle.aberzhan.proofs.Steps.{stays}
use Rattle.aberzhan.proofs.Module.reset.Goals as goal

pub returns-in_err-self : goal.returns-in_err-self
unfolding reset_of
returns-in_err-self c =
    let m = c.args.self.now in
    stays m _ _ c.from_residual.ensures.1 ∙ ap (resetting m) (rw (to_z-of_z c.ranges.mask) at c.in_err-self.ensures)

pub returns : goal.returns
unfolding reset_of
returns c = let m = c.args.self.now in ap (resetting m) (rw (to_z-of_z c.ranges.mask) at c.in_ok-self.ensures)
