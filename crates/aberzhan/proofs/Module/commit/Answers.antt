-- `Module::commit` meets its contract.
use mathlib.Core.Path.{ap, ◌∙◌}
use mir.Facts.{to_z-of_z}
use Rattle.meter.specs.declared.Meter.{Meter}
use Rattle.desk.specs.declared.Desk.{Desk}
use Rattle.desk.specs.Desks.{finished}
use Rattle.desk.proofs.Finishing.{finished_with, not_finished}
use Rattle.aberzhan.specs.Module.{done, refusal, desk_of, with_desk, with_meter, port_at, committing, commit_of}
use Rattle.aberzhan.specs.Inside.{side_of}
use Rattle.aberzhan.proofs.Sides.{a_port, no_port}
use Rattle.aberzhan.proofs.Steps.{stays, waits}
use Rattle.aberzhan.proofs.Module.commit.Goals as goal

pub returns-in_err-port : goal.returns-in_err-port
unfolding commit_of
returns-in_err-port c =
    let m = c.args.self.now in
    stays m _ _ c.from_residual.ensures.1
    ∙ no_port (port_at c.args.port) _ (λ n. refusal n m) (λ s. committing m s (finished (desk_of m s))) (rw (to_z-of_z c.ranges.port) at c.in_err-port.ensures)

pub returns-in_err-card : goal.returns-in_err-card
unfolding commit_of
returns-in_err-card c =
    let m = c.args.self.now in
    let s = side_of c.in_ok-port.port in
    stays m _ _ c.from_residual-in_err-card.ensures.1
    ∙ ap (committing m s) (not_finished _ _ c.in_err-card.ensures ∙ ap (λ (d : Desk). finished d) c.desk.ensures)
    ∙ a_port (port_at c.args.port) _ (refusal 8 m) (λ s. committing m s (finished (desk_of m s))) (rw (to_z-of_z c.ranges.port) at c.in_ok-port.ensures)

pub returns : goal.returns
unfolding commit_of
returns c =
    let m = c.args.self.now in
    let s = side_of c.in_ok-port.port in
    let k = c.in_ok-card in
    let f = finished_with c.desk.result k.card k.desk k.ensures in
    let shut = c.put_desk.ensures ∙ ap (λ (d : Desk). with_desk s d m) f.1 in
    let waits = ap (λ (n : Meter). with_meter n c.put_desk.new.self) c.wait-self.ensures ∙ waits m c.put_desk.new.self s k.card shut in
    ap done waits
    ∙ ap (committing m s) (f.0 ∙ ap (λ (d : Desk). finished d) c.desk.ensures)
    ∙ a_port (port_at c.args.port) _ (refusal 8 m) (λ s. committing m s (finished (desk_of m s))) (rw (to_z-of_z c.ranges.port) at c.in_ok-port.ensures)
