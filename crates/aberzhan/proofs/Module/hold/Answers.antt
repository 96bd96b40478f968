-- `Module::hold` meets its contract.
use mathlib.Core.Path.{ap, ◌∙◌}
use mir.Facts.{to_z-of_z}
use Rattle.aberzhan.specs.Module.{refusal, port_at, holding, hold_of}
use Rattle.aberzhan.specs.Inside.{side_of, copied_now}
use Rattle.aberzhan.proofs.Sides.{a_port, no_port}
use Rattle.aberzhan.proofs.Steps.{stays, holds}
use Rattle.aberzhan.proofs.Module.hold.Goals as goal

pub returns-in_err-port : goal.returns-in_err-port
unfolding hold_of
returns-in_err-port c =
    let m = c.args.self.now in
    stays m _ _ c.from_residual.ensures.1
    ∙ no_port (port_at c.args.port) _ (λ n. refusal n m) (λ s. holding m s (copied_now m)) (rw (to_z-of_z c.ranges.port) at c.in_err-port.ensures)

pub returns-in_err-held : goal.returns-in_err-held
unfolding hold_of
returns-in_err-held c =
    let m = c.args.self.now in
    let s = side_of c.in_ok-port.port in
    stays m _ _ c.from_residual-in_err-held.ensures.1
    ∙ ap (holding m s) c.in_err-held.ensures
    ∙ a_port (port_at c.args.port) _ (refusal 8 m) (λ s. holding m s (copied_now m)) (rw (to_z-of_z c.ranges.port) at c.in_ok-port.ensures)

pub returns : goal.returns
unfolding hold_of
returns c =
    let m = c.args.self.now in
    let s = side_of c.in_ok-port.port in
    holds m c.put_held.new.self s c.in_ok-held.held c.put_held.ensures
    ∙ ap (holding m s) c.in_ok-held.ensures
    ∙ a_port (port_at c.args.port) _ (refusal 8 m) (λ s. holding m s (copied_now m)) (rw (to_z-of_z c.ranges.port) at c.in_ok-port.ensures)
