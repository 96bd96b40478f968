-- What it is that a poll counts as its hold and its reads: they are not refused, leave the module that it leaves, and return what it sends.
use Rattle.std.specs.Prelude.{ℕ, ◌≤◌, ◌≡◌, List, [], ◌∷◌, ℤ, length}
use Rattle.steps.specs.Answers.{accepted}
use Rattle.steps.specs.Port.{port1, on}
use Rattle.steps.specs.Module.{Op}
use Rattle.steps.specs.Calls.{Log}
use Rattle.serial.specs.Places.{put}
use Rattle.port.specs.Holds.{Value, interval, register}
use Rattle.packet.specs.Replies.{values_reply}
use Rattle.aberzhan.specs.declared.Module.{Module}
use Rattle.calls.specs.Ports.{aberzhan}
use Rattle.aberzhan.specs.Polling.{poll_of, poll_buffer}
use Rattle.calls.specs.Calls.{program}
use Rattle.calls.specs.Turns.{sent_by, poll_calls}

-- what the reads among these returned, in their order
abbrev pub values_read : List (Op aberzhan × Value) → List ℤ
values_read [] = []
values_read ((op, interval n s k a) ∷ r) = values_read r
values_read ((op, register v) ∷ r) = v ∷ values_read r

module _ (m : Module) (packet buffer : List ℕ) where
  abbrev sent : List ℕ
  sent = sent_by m packet (length buffer)

  -- the hold and the reads themselves, of the same module
  abbrev themselves : Log aberzhan Module
  themselves = program (poll_calls sent) m

  pub record PollCounts : Type 0 where
    pub none_refused : themselves.refusals ≡ 0
    pub same_module : (poll_of m packet (length buffer)).after ≡ themselves.end
    pub same_values : (a : ℕ) (more : List ℕ) → sent ≡ a ∷ more →
        poll_buffer m packet buffer ≡ put buffer 0 (values_reply (values_read (on themselves.heard port1)))
    -- and else there are no data in the reply, of one byte at most, and the module is as it came
    pub no_data : sent ≡ [] → (n : ℕ) → (poll_of m packet (length buffer)).answer ≡ accepted n → n ≤ 1
    pub else_as_it_came : sent ≡ [] → (poll_of m packet (length buffer)).after ≡ m
