-- `Module::begun` meets its contract.
use mathlib.Core.Path.{ap, ◌∙◌}
use mir.Facts.{to_z-of_z}
use Rattle.steps.specs.Answers.{accepted}
use Rattle.steps.proofs.Answers.{handed_on}
use Rattle.aberzhan.specs.declared.Module.{Module}
use Rattle.aberzhan.proofs.Starts.{meter_refused, watch_refused, both_taken}
use Rattle.aberzhan.proofs.Module.begun.Goals as goal

pub returns-in_err-meter : goal.returns-in_err-meter
returns-in_err-meter c =
    let f = c.ranges in
    let e = rw (to_z-of_z f.n, to_z-of_z f.b, to_z-of_z f.config) at c.in_err-meter.ensures in
    handed_on _ _ c.from_residual.ensures.1 ∙ meter_refused c.args.n c.args.b c.args.track c.args.asked c.args.config _ e

pub returns-in_err-watch : goal.returns-in_err-watch
returns-in_err-watch c =
    handed_on _ _ c.from_residual-in_err-watch.ensures.1 ∙ watch_refused c.args.n c.args.b c.args.track c.args.asked c.args.config _ c.in_err-watch.ensures

pub returns : goal.returns
returns c =
    let f = c.ranges in
    let e = rw (to_z-of_z f.n, to_z-of_z f.b, to_z-of_z f.config) at c.in_ok-meter.ensures in
    ap (λ (m : Module). accepted m) c.fresh.ensures ∙ both_taken c.args.n c.args.b c.args.track c.args.asked c.args.config _ _ e c.in_ok-watch.ensures
