-- `Module::start` meets its contract.
use mathlib.Core.Path.{ap₂, ◌∙◌}
use mir.Facts.{to_z-of_z}
use Rattle.alarm.specs.declared.Watch.{Watch}
use Rattle.meter.specs.declared.Meter.{Meter}
use Rattle.aberzhan.specs.Module.{fresh_module}
use Rattle.aberzhan.proofs.Starts.{start_done, start_refused}
use Rattle.aberzhan.proofs.Module.start.Goals as goal

pub returns-in-Ok : goal.returns-in-Ok
returns-in-Ok c =
    let f = c.ranges in
    let e = rw (to_z-of_z f.n, to_z-of_z f.b, to_z-of_z f.config) at c.in-Ok.ensures in
    start_done c.args.n c.args.b c.args.track c.args.asked c.args.config _ e

pub returns-in-Err : goal.returns-in-Err
returns-in-Err c =
    let f = c.ranges in
    let e = rw (to_z-of_z f.n, to_z-of_z f.b, to_z-of_z f.config) at c.in-Err.ensures in
    start_refused c.args.n c.args.b c.args.track c.args.asked c.args.config _ _ e
    (c.fresh.ensures ∙ ap₂ (λ (m : Meter) (a : Watch). fresh_module m a) c.lowest.ensures c.lowest-in-Err.ensures)
