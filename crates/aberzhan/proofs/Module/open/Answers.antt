-- `Module::open` meets its contract.
use mathlib.Core.Path.{ap, ◌∙◌}
use mir.Facts.{to_z-of_z}
use Rattle.desk.specs.declared.Desk.{Desk}
use Rattle.desk.specs.Desks.{opening}
use Rattle.aberzhan.specs.Module.{done, refusal, desk_of, port_at, at_desk, open_of}
use Rattle.aberzhan.specs.Inside.{side_of}
use Rattle.aberzhan.proofs.Sides.{a_port, no_port}
use Rattle.aberzhan.proofs.Steps.{stays}
use Rattle.aberzhan.proofs.Module.open.Goals as goal

pub returns-in_err-port : goal.returns-in_err-port
unfolding open_of
returns-in_err-port c =
    let m = c.args.self.now in
    stays m _ _ c.from_residual.ensures.1
    ∙ no_port (port_at c.args.port) _ (λ n. refusal n m) (λ s. at_desk m s (opening (desk_of m s) c.args.serial.now)) (rw (to_z-of_z c.ranges.port) at c.in_err-port.ensures)

pub returns-in_err-desk : goal.returns-in_err-desk
unfolding open_of
returns-in_err-desk c =
    let m = c.args.self.now in
    let s = side_of c.in_ok-port.port in
    stays m _ _ c.from_residual-in_err-desk.ensures.1
    ∙ ap (at_desk m s) (c.in_err-desk.ensures ∙ ap (λ (d : Desk). opening d c.args.serial.now) c.desk.ensures)
    ∙ a_port (port_at c.args.port) _ (refusal 8 m) (λ s. at_desk m s (opening (desk_of m s) c.args.serial.now)) (rw (to_z-of_z c.ranges.port) at c.in_ok-port.ensures)

pub returns : goal.returns
unfolding open_of
returns c =
    let m = c.args.self.now in
    let s = side_of c.in_ok-port.port in
    ap done c.put_desk.ensures
    ∙ ap (at_desk m s) (c.in_ok-desk.ensures ∙ ap (λ (d : Desk). opening d c.args.serial.now) c.desk.ensures)
    ∙ a_port (port_at c.args.port) _ (refusal 8 m) (λ s. at_desk m s (opening (desk_of m s) c.args.serial.now)) (rw (to_z-of_z c.ranges.port) at c.in_ok-port.ensures)
