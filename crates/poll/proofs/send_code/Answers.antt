-- `poll::send_code` meets its contract.
use borrow.Author.Tests.{le-leb}
use Rattle.packet.specs.Replies.{code, reply_bytes}
use Rattle.poll.specs.Polls.{replied_in}
use Rattle.poll.proofs.Sending.{too_short, stays}
use Rattle.poll.proofs.send_code.Goals as goal

pub returns-then-out-lt1 : goal.returns-then-out-lt1
unfolding reply_bytes
returns-then-out-lt1 c =
    let r = code c.args.c in
    let b = c.args.out.now in
    (too_short r b c.if-out-lt1.true, stays r b c.if-out-lt1.true)

pub returns : goal.returns
unfolding replied_in reply_bytes
returns c = (simp (le-leb _ _ c.if-out-lt1.false), c.put_at.ensures)
