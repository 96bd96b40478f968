-- `poll::walk` meets its contract.
use mathlib.Core.Path.{sym, ap, ◌∙◌}
use Rattle.poll.specs.Polls.{read_at}
use Rattle.poll.specs.Inside.{left_for, walked}
use Rattle.poll.proofs.Gathers.{handed_on}
use Rattle.poll.proofs.walk.Goals as goal

pub returns-in-Goes : goal.returns-in-Goes
unfolding walked
returns-in-Goes c =
    let args = c.args in
    sym (ap (walked (read_at args.h) args.d args.g) (sym c.in-Goes.ensures))

pub returns-in_err-gathered-in-Reads : goal.returns-in_err-gathered-in-Reads
unfolding walked
returns-in_err-gathered-in-Reads c =
    let args = c.args in
    handed_on _ _ c.from_residual.ensures.1
    ∙ ap (left_for c.in-Reads.device) (sym c.in_err-gathered-in-Reads.was ∙ c.read_on.ensures)
    ∙ sym (ap (walked (read_at args.h) args.d args.g) (sym c.in-Reads.ensures))

pub returns-in_ok-gathered-in-Reads : goal.returns-in_ok-gathered-in-Reads
unfolding walked
returns-in_ok-gathered-in-Reads c =
    let args = c.args in
    ap (left_for c.in-Reads.device) (sym c.in_ok-gathered-in-Reads.was ∙ c.read_on.ensures)
    ∙ sym (ap (walked (read_at args.h) args.d args.g) (sym c.in-Reads.ensures))

pub returns-in-Stops : goal.returns-in-Stops
unfolding walked
returns-in-Stops c =
    let args = c.args in
    sym (ap (walked (read_at args.h) args.d args.g) (sym c.in-Stops.ensures))
