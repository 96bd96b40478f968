-- The step poll (document 02, A4): a packet of the serial line, answered from one hold of its own on port 1.
use Rattle.std.specs.Prelude.{ℕ, cond, List, leb, length}
use Rattle.steps.specs.Answers.{accepted, or_as_before}
use Rattle.steps.specs.Port.{port1}
use Rattle.serial.specs.Places.{put_within}
use Rattle.port.specs.declared.Held.{Held}
use Rattle.port.specs.Holds.{nothing_held, copied}
use Rattle.packet.specs.Replies.{Reply, reply_bytes, sends}
use Rattle.poll.specs.Polls.{reply_from}
use Rattle.aberzhan.specs.declared.Module.{Module}
use Rattle.aberzhan.specs.Module.{Outcome, refusal, with_held}

-- what a hold would copy now; nothing, whose every read is refused, where no interval has closed
abbrev pub held_now : Module → Held
held_now m = let w = m.meter.work in or_as_before (copied w.any w.last w.settings.track) nothing_held

-- the reply
unfoldable pub poll_reply : Module → List ℕ → Reply
poll_reply m packet = reply_from (held_now m) packet

-- the hold on port 1 is taken exactly when registers are sent
abbrev pub after_reply : Reply → Module → Module
after_reply r m = cond (sends r) (with_held port1 (held_now m) m) m

-- poll: 21, if the reply is longer than the buffer. How many bytes the reply has.
unfoldable pub poll_of : Module → List ℕ → ℕ → Outcome ℕ
poll_of m packet room =
    let r = poll_reply m packet in
    cond (leb (length (reply_bytes r)) room) (record { answer = accepted (length (reply_bytes r)); after = after_reply r m }) (refusal 21 m)

-- the buffer b: the reply at its front where there is room, and bytes past it stay
unfoldable pub poll_buffer : Module → List ℕ → List ℕ → List ℕ
poll_buffer m packet b = put_within b 0 (reply_bytes (poll_reply m packet))
