-- The reply to a packet whose reads are answered from a hold, and whether a lent buffer has room for it.
use Rattle.std.specs.Prelude.{ℕ, Option, Some, None, cond, List, leb, ℤ, length}
use Rattle.steps.specs.Answers.{OrRefusal}
use Rattle.port.specs.declared.Held.{Held}
use Rattle.port.specs.Reading.{look}
use Rattle.packet.specs.Replies.{Reply, reply_to, reply_bytes, sends}
use Rattle.poll.specs.declared.Replied.{Replied}

-- what the read step gives at this byte address: the register table is that of the read step, and there is no other
abbrev pub read_at : Held → ℕ → OrRefusal ℤ
read_at h address = look h (record { 0 = address })

unfoldable pub reply_from : Held → List ℕ → Reply
reply_from h packet = reply_to (read_at h) packet

-- with room for so many bytes: how long the reply is, and whether it sends registers; none where it does not fit, for it is not cut
unfoldable pub replied_in : ℕ → Reply → Option Replied
replied_in room r = cond (leb (length (reply_bytes r)) room) (Some (record { length = length (reply_bytes r); sends = sends r })) None
