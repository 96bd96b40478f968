-- What a poll is in demand 3, of every module: the hold and the reads that it counts as, and the bytes that it sends; and that no register is left out.
use Rattle.std.specs.Prelude.{ℕ, Result, Ok, ◌≤◌, ◌<◌, ◌≡◌, cond, List, [], ◌∷◌, leb, ℤ, pos, length}
use Rattle.steps.specs.Answers.{refused, accepted, answer_of}
use Rattle.steps.specs.Port.{port1, on}
use Rattle.steps.specs.Calls.{Reply, returns, Log, Ran}
use Rattle.refusal.specs.declared.Refusal.{Refusal}
use Rattle.serial.specs.Places.{put}
use Rattle.card.specs.Cards.{bits24, three_bytes}
use Rattle.port.specs.Holds.{register}
use Rattle.packet.specs.Requests.{read_packet}
use Rattle.packet.specs.Replies.{with_sum, values_reply, reply_bytes}
use Rattle.aberzhan.specs.declared.Module.{Module}
use Rattle.aberzhan.specs.declared.Holding.{Holding}
use Rattle.calls.specs.Ports.{aberzhan}
use Rattle.aberzhan.specs.Polling.{poll_reply}
use Rattle.calls.specs.Turns.{poll, sent_by, read_call, counts_as}
use Rattle.calls.specs.Counting.{values_read}
use Rattle.calls.proofs.Contracts.{Holds, Polls, Allows, methods}

-- ---- a poll is its hold and its reads

-- r is what a poll returned, z the module and left the bytes of the buffer that it left; l is whatever the contracts allow to come of the calls that it
-- counts as, of the same module
pub record PollTells (m : Module) (packet buffer : List ℕ) (r : Result ℕ Refusal) (z : Module) (left : List ℕ) : Type 0 where
  pub answer : let n = length (reply_bytes (poll_reply m packet)) in answer_of r ≡ cond (leb n (length buffer)) (accepted n) (refused 21)
  pub none_refused : (l : Log aberzhan Module) → Ran aberzhan methods (counts_as m (poll packet buffer)) m l → l.refusals ≡ 0
  pub same_module : (l : Log aberzhan Module) → Ran aberzhan methods (counts_as m (poll packet buffer)) m l → z ≡ l.end
  -- the data are what the reads returned
  pub same_values : (l : Log aberzhan Module) → Ran aberzhan methods (counts_as m (poll packet buffer)) m l → (a : ℕ) (more : List ℕ) →
      sent_by m packet (length buffer) ≡ a ∷ more → left ≡ put buffer 0 (values_reply (values_read (on l.heard port1)))
  -- where it is done, the whole reply stands at the front of the buffer, and bytes past it stay
  pub whole_reply : (n : ℕ) → answer_of r ≡ accepted n →
      (n ≡ length (reply_bytes (poll_reply m packet))) × (left ≡ put buffer 0 (reply_bytes (poll_reply m packet)))
  -- where it counts as nothing, no register is sent, only one byte or none, and the module is the very same; where it is refused, the buffer too
  pub no_data : sent_by m packet (length buffer) ≡ [] → (n : ℕ) → answer_of r ≡ accepted n → n ≤ 1
  pub else_as_it_came : sent_by m packet (length buffer) ≡ [] → z ≡ m
  pub refused_as_it_came : (n : ℕ) → answer_of r ≡ refused n → (z ≡ m) × (left ≡ buffer)

abbrev pub PollsTell : Type 0
PollsTell =
    (m : Module) (packet buffer : List ℕ) (r : Result ℕ Refusal) (z : Module) (left : List ℕ) → Polls m packet buffer r z left →
    PollTells m packet buffer r z left

-- ---- every register that the read step gives can be polled

-- a poll of the register at the address a is answered with v, and leaves the module z
pub record AnsweredWith (m z : Module) (a : ℕ) (v : ℤ) : Type 0 where
  pub address : a < 65536  -- as two bytes say it
  pub answered : (buffer : List ℕ) (r : Result ℕ Refusal) (after : Module) (left : List ℕ) →
      Polls m (read_packet a) buffer r after left → 6 ≤ length buffer →
      (answer_of r ≡ accepted 6) × (left ≡ put buffer 0 (with_sum (0xAA ∷ 6 ∷ three_bytes (bits24 v)))) × (after ≡ z)

-- where a hold at port 1 is accepted and a read behind it returns v, so does a poll, and leaves what the hold left
abbrev pub EveryRegister : Type 0
EveryRegister =
    (m z : Module) (a : ℕ) (v : ℤ) (h : Holding) (o : Reply aberzhan × Module) → Holds m (pos 1) (Ok h) z → Allows (read_call a) z o →
    o.0 ≡ returns (register v) → AnsweredWith m z a v
