-- `Module::read` meets its contract.
use mathlib.Core.Path.{ap, ◌∙◌}
use mir.Facts.{to_z-of_z}
use Rattle.steps.specs.Answers.{refused}
use Rattle.steps.proofs.Answers.{handed_on}
use Rattle.port.specs.declared.Held.{Held}
use Rattle.port.specs.Reading.{look}
use Rattle.aberzhan.specs.Module.{held_of, port_at, read_of}
use Rattle.aberzhan.proofs.Sides.{a_port, no_port}
use Rattle.aberzhan.proofs.Module.read.Goals as goal

pub returns-in_err-port : goal.returns-in_err-port
unfolding read_of
returns-in_err-port c =
    let m = c.args.self.now in
    handed_on _ _ c.from_residual.ensures.1
    ∙ no_port (port_at c.args.port) _ refused (λ s. look (held_of m s) c.args.address) (rw (to_z-of_z c.ranges.port) at c.in_err-port.ensures)

pub returns : goal.returns
unfolding read_of
returns c =
    let m = c.args.self.now in
    c.look.ensures
    ∙ ap (λ (h : Held). look h c.args.address) c.held.ensures
    ∙ a_port (port_at c.args.port) _ (refused 8) (λ s. look (held_of m s) c.args.address) (rw (to_z-of_z c.ranges.port) at c.in_ok-port.ensures)
