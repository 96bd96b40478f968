-- What is promised of every poll: its answer has the bytes of the module's reply, all of them and nothing else.
use Rattle.std.specs.Prelude.{ℕ, ◌≤◌, ◌<◌, ◌≡◌, List, ◌++◌, length}
use Rattle.serial.specs.Ascii.{ascii}
use Rattle.packet.specs.Replies.{reply_bytes}
use Rattle.aberzhan.specs.declared.Module.{Module}
use Rattle.aberzhan.specs.Polling.{poll_reply}
use Rattle.console.specs.Turns.{polled_turn}
use Rattle.console.specs.Answers.{end, bytes_text, refused_line, answer_text}

pub record SaysReply : Type 0 where
  pub whole : (m : Module) (packet : List ℕ) (room : ℕ) → length (reply_bytes (poll_reply m packet)) ≤ room →
      answer_text (polled_turn m packet room) ≡ ascii "ok" ++ bytes_text (reply_bytes (poll_reply m packet)) ++ end
  pub too_long : (m : Module) (packet : List ℕ) (room : ℕ) → room < length (reply_bytes (poll_reply m packet)) → answer_text (polled_turn m packet room) ≡ refused_line 21
