-- `port_at` meets its contract.
use mathlib.Core.Path.{◌≡◌, sym, ap, ◌∙◌}
use lib.IntN.{ℤ, pos}
use mir.Facts.{to_z-of_z}
use mir.Syntax.{w64}
use mir.Val.{of_z, to_z}
use Rattle.aberzhan.specs.Module.{port_at}
use Rattle.aberzhan.proofs.Sides.{found, found_0, found_1, found_none}
use Rattle.aberzhan.proofs.port_at.Goals as goal

pub returns-then-port-eq0 : goal.returns-then-port-eq0
returns-then-port-eq0 c =
    let is : c.args.port ≡ pos 0 = sym (to_z-of_z c.ranges.port) ∙ ap (to_z w64) c.if-port-eq0.true in
    found_0 ∙ ap (λ (p : ℤ). found (port_at p)) (sym is)

pub returns-then-port-eq1 : goal.returns-then-port-eq1
returns-then-port-eq1 c =
    let is : c.args.port ≡ pos 1 = sym (to_z-of_z c.ranges.port) ∙ ap (to_z w64) c.if-port-eq1.true in
    found_1 ∙ ap (λ (p : ℤ). found (port_at p)) (sym is)

pub returns : goal.returns
returns c = found_none c.args.port (λ e. c.if-port-eq0.false (ap (of_z w64) e)) (λ e. c.if-port-eq1.false (ap (of_z w64) e))
