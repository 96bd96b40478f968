-- `poll::answer` meets its contract.
use mathlib.Core.Path.{sym, ◌∙◌}
use Rattle.std.specs.Prelude.{Ok, Err}
use Rattle.poll.proofs.Sending.{of_reply}
use Rattle.poll.proofs.Answering.{reply_is}
use Rattle.poll.proofs.answer.Goals as goal

pub returns-in-Ok : goal.returns-in-Ok
returns-in-Ok c =
    let args = c.args in
    of_reply args.out.now _ _ (reply_is args.h args.packet.now (Ok c.in-Ok.gathered) (sym c.in-Ok.is ∙ c.asked.ensures)) c.send_values.ensures

pub returns-in-Err : goal.returns-in-Err
returns-in-Err c =
    let args = c.args in
    of_reply args.out.now _ _ (reply_is args.h args.packet.now (Err c.in-Err.ending) (sym c.in-Err.is ∙ c.asked.ensures)) c.send_ending.ensures
