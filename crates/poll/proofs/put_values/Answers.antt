-- `poll::put_values` meets its contract: the code and the count, the registers, and the sum of these.
use mathlib.Core.Path.{sym, ap, ◌∙◌}
use native.Mathlib.Omega.{arith}
use lib.Seq.{length-take-le}
use Rattle.packet.specs.Packets.{checksum}
use Rattle.poll.proofs.Putting.{front_is, front_summed, reply_is}
use Rattle.poll.proofs.put_values.Goals as goal

pub slice_bounds-sum_of-end-2 : goal.slice_bounds-sum_of-end-2
slice_bounds-sum_of-end-2 c = sym (length-take-le _ _ (omega arith))

pub returns : goal.returns
returns c =
    let args = c.args in
    let pre = c.requires in
    let put-at = c.put_at in
    let put-registers = c.put_registers in
    let sum_of = c.sum_of in
    let b = args.out.now in
    let vs = args.values.now in
    let room = pre.1 in
    let e = front_is b vs room _ _ put-at.ensures put-registers.ensures in
    reply_is b vs room _ _ _ e (sum_of.ensures ∙ ap checksum (front_summed b vs room _ e)) c.put_at-2.ensures
