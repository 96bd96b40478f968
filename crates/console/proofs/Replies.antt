-- The answer to a poll has the bytes of the module's reply.
use Prim.Native.Nat.{ℕ, ◌+◌, ◌-◌, ◌≤◌, ◌<◌}
use mathlib.Core.Path.{◌≡◌, refl, ap, ◌∙◌}
use mathlib.Core.List.{List, ◌++◌, append_assoc}
use native.Mathlib.Omega.{arith}
use lib.ListN.{length, take, drop, replicate, length-replicate}
use lib.Seq.{take-append_seam}
use borrow.Author.Tests.{le-leb, lt-leb}
use Rattle.serial.specs.Ascii.{ascii}
use Rattle.serial.specs.Places.{put, put_within}
use Rattle.serial.proofs.Places.{put_fits}
use Rattle.packet.specs.Replies.{reply_bytes}
use Rattle.aberzhan.specs.declared.Module.{Module}
use Rattle.aberzhan.specs.Polling.{poll_reply, poll_of, poll_buffer}
use Rattle.console.specs.Turns.{told_reply, polled_turn}
use Rattle.console.specs.Answers.{end, bytes_text, reply_line, refused_line, said_text, told_text, answer_text}
use Rattle.console.specs.Replies.{SaysReply}

-- what is put at the front of bytes is what is taken from there
front : (room : ℕ) (b behind : List ℕ) → length b ≤ room → take (length b) (put_within (replicate room 0) 0 b ++ behind) ≡ b
unfolding put
front room b behind h =
    let z : List ℕ = replicate room 0 in
    let l : 0 + length b ≤ length z = omega (arith, length-replicate {A = ℕ} room 0) in
    ap (λ (t : List ℕ). take (length b) (t ++ behind)) (put_fits z b 0 l)
    ∙ ap (take (length b)) (append_assoc b (drop (0 + length b) z) behind)
    ∙ take-append_seam b (drop (0 + length b) z ++ behind)

module _ (m : Module) (packet : List ℕ) (room : ℕ) where
  said : length (reply_bytes (poll_reply m packet)) ≤ room → answer_text (polled_turn m packet room) ≡ ascii "ok" ++ bytes_text (reply_bytes (poll_reply m packet)) ++ end
  unfolding told_text said_text reply_line told_reply poll_of poll_buffer
  said h =
      let b = reply_bytes (poll_reply m packet) in
      rw (le-leb (length b) room h) (ap (λ (t : List ℕ). ascii "ok" ++ bytes_text t ++ end) (front room b (replicate (255 - room) 0) h))

  refused : room < length (reply_bytes (poll_reply m packet)) → answer_text (polled_turn m packet room) ≡ refused_line 21
  unfolding told_text poll_of
  refused h = rw (lt-leb (length (reply_bytes (poll_reply m packet))) room h) refl

pub says_reply : SaysReply
says_reply = record { whole = said; too_long = refused }
