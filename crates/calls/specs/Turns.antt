-- What is done at the module, one thing after another: a call of a step, or a poll; and the calls that a poll counts as in demand 3 (document 02, A4).
use Rattle.std.specs.Prelude.{ℕ, cond, ◌&&◌, List, [], ◌∷◌, ◌++◌, map, leb, pos, length}
use Rattle.steps.specs.Calls.{Log, noted}
use Rattle.packet.specs.Commands.{asked_by}
use Rattle.packet.specs.Replies.{reply_bytes, sends}
use Rattle.aberzhan.specs.declared.Module.{Module}
use Rattle.calls.specs.Ports.{aberzhan}
use Rattle.aberzhan.specs.Polling.{poll_reply, poll_of}
use Rattle.calls.specs.Calls.{Call, call_hold, call_read, step_of, returned}

pub data Turn : Type 0 where
  call : Call → Turn
  poll : List ℕ → List ℕ → Turn  -- the packet, and the bytes of the lent buffer

-- the byte addresses of the registers that a poll sends: none where its reply has no data, or does not fit
unfoldable pub sent_by : Module → List ℕ → ℕ → List ℕ
sent_by m packet room =
    let r = poll_reply m packet in
    cond (sends r && leb (length (reply_bytes r)) room) (asked_by packet).registers []

-- a read at port 1
abbrev pub read_call : ℕ → Call
read_call a = call_read (pos 1) (record { 0 = a })

-- a poll that sends registers counts as its hold and its reads, and any other as nothing
abbrev pub poll_calls : List ℕ → List Call
poll_calls [] = []
poll_calls (a ∷ more) = call_hold (pos 1) ∷ map read_call (a ∷ more)

abbrev pub counts_as : Module → Turn → List Call
counts_as m (call k) = k ∷ []
counts_as m (poll packet buffer) = poll_calls (sent_by m packet (length buffer))

-- the module after it
abbrev pub after_turn : Module → Turn → Module
after_turn m (call k) = (returned k m).1
after_turn m (poll packet buffer) = (poll_of m packet (length buffer)).after

-- the calls that some turns count as
abbrev pub calls_of : List Turn → Module → List Call
calls_of [] m = []
calls_of (t ∷ ts) m = counts_as m t ++ calls_of ts (after_turn m t)

-- the log l, with what some calls return of the module m noted before it
abbrev pub noted_all : List Call → Module → Log aberzhan Module → Log aberzhan Module
noted_all [] m l = l
noted_all (k ∷ ks) m l = noted aberzhan Module (step_of k) (returned k m).0 (noted_all ks (returned k m).1 l)
