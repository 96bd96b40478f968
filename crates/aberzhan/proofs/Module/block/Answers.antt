-- `Module::block` meets its contract.
use mathlib.Core.Path.{sym, ap, ◌∙◌}
use mathlib.Core.List.{List}
use lib.IntN.{ℤ}
use Rattle.refusal.specs.Numbers.{number_of}
use Rattle.steps.specs.Answers.{answer_of}
use Rattle.alarm.specs.Alarms.{both}
use Rattle.meter.specs.Blocks.{block_done, block_of as meterBlock, volts_of}
use Rattle.aberzhan.specs.Module.{refusal, done, watch_of, with_meter, with_watch, feeding, block_of}
use Rattle.aberzhan.proofs.Steps.{stays, volts_stay}
use Rattle.aberzhan.proofs.Module.block.Goals as goal

pub returns-in_err-fed : goal.returns-in_err-fed
unfolding block_of meterBlock volts_of
returns-in_err-fed c =
    let m = c.args.self.now in
    let q = watch_of m in
    let volts = volts_of m.meter q c.args.v.now c.args.s1.now c.args.s3.now in
    let e = ap answer_of (sym c.in_err-fed.was) ∙ c.block.ensures.value in
    let kept = c.block.ensures.volts_after ∙ volts_stay q (block_done m.meter q c.args.v.now c.args.s1.now c.args.s3.now) _ e in
    stays _ _ _ c.from_residual.ensures.1
    ∙ ap (λ (z : List ℤ). refusal (number_of c.in_err-fed.field-0.0) (with_watch (both m.watch z) m)) kept
    ∙ ap (feeding m volts) e

pub returns : goal.returns
unfolding block_of
returns c =
    let m = c.args.self.now in
    let q = watch_of m in
    let volts = volts_of m.meter q c.args.v.now c.args.s1.now c.args.s3.now in
    ap (λ (z : List ℤ). done (with_meter c.in_ok-fed.fed.meter (with_watch (both c.in_ok-fed.fed.watch z) m))) c.block.ensures.volts_after
    ∙ ap (feeding m volts) c.in_ok-fed.ensures.value
