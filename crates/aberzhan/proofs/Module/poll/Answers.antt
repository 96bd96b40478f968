-- `Module::poll` meets its contract.
use mathlib.Core.Path.{◌≡◌, sym, ap, ◌∙◌}
use mathlib.Core.Bool.{Bool, cond}
use lib.ListN.{length}
use Rattle.steps.specs.Port.{port1}
use Rattle.aberzhan.specs.Module.{with_held}
use Rattle.aberzhan.specs.Polling.{held_now}
use Rattle.aberzhan.proofs.Steps.{stays}
use Rattle.aberzhan.proofs.Polls.{now_held, poll_refused, poll_done, buffer_is}
use Rattle.aberzhan.proofs.Module.poll.Goals as goal
use Rattle.aberzhan.proofs.Module.poll.Goals.{After-unwrap_or-own}

-- the hold is what is held now
own : (c : After-unwrap_or-own) → c.unwrap_or-own.result ≡ held_now c.args.self.now
own c = c.unwrap_or-own.ensures ∙ now_held c.args.self.now _ _ c.copied.ensures c.nothing.ensures

pub returns-in_err-replied : goal.returns-in_err-replied
returns-in_err-replied c =
    let m = c.args.self.now in
    let a = c.args in
    let o = own (goal.at.returns-in_err-replied c).After-unwrap_or-own in (
      stays m _ _ c.from_residual.ensures.1
          ∙ poll_refused m a.packet.now (length a.out.now) _ _ _ o c.answer.ensures.0 c.ok_or.ensures.value _ c.in_err-replied.was,
      buffer_is m a.packet.now a.out.now _ _ o c.answer.ensures.1,
    )

pub returns-then-replied : goal.returns-then-replied
returns-then-replied c =
    let m = c.args.self.now in
    let a = c.args in
    let o = own (goal.at.returns-then-replied c).After-unwrap_or-own in (
      poll_done m a.packet.now (length a.out.now) _ _ _ o c.answer.ensures.0 c.ok_or.ensures.value _ _ c.in_ok-replied.was
          (sym (ap (λ (t : Bool). cond t (with_held port1 c.unwrap_or-own.result m) m) c.if-replied.true)),
      buffer_is m a.packet.now a.out.now _ _ o c.answer.ensures.1,
    )

pub returns-else-replied : goal.returns-else-replied
returns-else-replied c =
    let m = c.args.self.now in
    let a = c.args in
    let o = own (goal.at.returns-else-replied c).After-unwrap_or-own in (
      poll_done m a.packet.now (length a.out.now) _ _ _ o c.answer.ensures.0 c.ok_or.ensures.value _ _ c.in_ok-replied.was
          (sym (ap (λ (t : Bool). cond t (with_held port1 c.unwrap_or-own.result m) m) c.if-replied.false)),
      buffer_is m a.packet.now a.out.now _ _ o c.answer.ensures.1,
    )
