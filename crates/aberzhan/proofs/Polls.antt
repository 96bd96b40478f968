-- Laws of a poll: what the code answers and leaves is what the step's definition gives.
use Prim.Native.Nat.{ℕ}
use mathlib.Core.Path.{◌≡◌, sym, ap, ◌∙◌}
use mathlib.Core.Bool.{Bool, true, false, cond}
use mathlib.Core.List.{List}
use lib.Dec.{leb}
use lib.ListN.{length}
use Rattle.std.specs.Prelude.{Option, Some, None, Result, Ok, Err}
use Rattle.std.specs.Option.{ok_or}
use Rattle.std.specs.Result.{result_unwrap_or}
use Rattle.refusal.specs.declared.Refusal.{Refusal}
use Rattle.refusal.specs.declared.Refusal.TheVariants.{NoRoom}
use Rattle.refusal.specs.Numbers.{number_of}
use Rattle.steps.specs.Answers.{OrRefusal, accepted, answer_of, or_as_before}
use Rattle.steps.specs.Port.{port1}
use Rattle.serial.specs.Places.{put_within}
use Rattle.port.specs.declared.Held.{Held}
use Rattle.port.specs.Holds.{nothing_held}
use Rattle.packet.specs.Replies.{Reply, reply_bytes, sends}
use Rattle.poll.specs.declared.Replied.{Replied}
use Rattle.poll.specs.Polls.{reply_from, replied_in}
use Rattle.aberzhan.specs.declared.Module.{Module}
use Rattle.aberzhan.specs.Module.{Outcome, refusal, with_held}
use Rattle.aberzhan.specs.Polling.{held_now, poll_reply, after_reply, poll_of, poll_buffer}
use Rattle.aberzhan.specs.Inside.{copied_now}

-- a refused copy is nothing held
or_nothing : (r : Result Held Refusal) (q : OrRefusal Held) → answer_of r ≡ q → result_unwrap_or r nothing_held ≡ or_as_before q nothing_held
or_nothing (Ok h) q e = ap (λ (q : OrRefusal Held). or_as_before q nothing_held) e
or_nothing (Err x) q e = ap (λ (q : OrRefusal Held). or_as_before q nothing_held) e

pub now_held : (m : Module) (r : Result Held Refusal) (d : Held) → answer_of r ≡ copied_now m → d ≡ nothing_held → result_unwrap_or r d ≡ held_now m
now_held m r d e n = ap (result_unwrap_or r) n ∙ or_nothing r (copied_now m) e

module _ (m : Module) (packet : List ℕ) (room : ℕ) where
  abbrev reply : Reply
  reply = reply_from (held_now m) packet

  abbrev long : ℕ
  long = length (reply_bytes reply)

  abbrev polled : Bool → Outcome ℕ
  polled t = cond t (record { answer = accepted long; after = after_reply reply m }) (refusal 21 m)

  abbrev replied : Bool → Option Replied
  replied t = cond t (Some (record { length = long; sends = sends reply })) None

  refused_by : (t : Bool) (e : Refusal) → ok_or (replied t) NoRoom ≡ Err e → refusal (number_of e) m ≡ polled t
  refused_by true e h = absurd cc
  refused_by false e h = let s : e ≡ NoRoom = cc in ap (λ (e : Refusal). refusal (number_of e) m) s

  done_by : (t : Bool) (w : Replied) → ok_or (replied t) NoRoom ≡ Ok w →
      ◌≡◌ {A = Outcome ℕ} (record { answer = accepted w.length; after = cond w.sends (with_held port1 (held_now m) m) m }) (polled t)
  done_by true w h =
      let s : ◌≡◌ {A = Replied} w (record { length = long; sends = sends reply }) = cc in
      ap (λ (w : Replied). record { answer = accepted w.length; after = cond w.sends (with_held port1 (held_now m) m) m }) s
  done_by false w h = absurd cc

  module _ (own : Held) (x : Option Replied) (y : Result Replied Refusal) (o : own ≡ held_now m) (a : x ≡ replied_in room (reply_from own packet)) (b : y ≡ ok_or x NoRoom) where
    answered : y ≡ ok_or (replied (leb long room)) NoRoom
    unfolding replied_in
    answered = b ∙ ap (λ (x : Option Replied). ok_or x NoRoom) (a ∙ ap (λ (h : Held). replied_in room (reply_from h packet)) o)

    pub poll_refused : (e : Refusal) → y ≡ Err e → refusal (number_of e) m ≡ poll_of m packet room
    unfolding poll_of poll_reply
    poll_refused e h = refused_by (leb long room) e (sym answered ∙ h)

    pub poll_done : (w : Replied) (d : Module) → y ≡ Ok w → d ≡ cond w.sends (with_held port1 own m) m →
        ◌≡◌ {A = Outcome ℕ} (record { answer = accepted w.length; after = d }) (poll_of m packet room)
    unfolding poll_of poll_reply
    poll_done w d h e =
        ap (λ (d : Module). record { answer = accepted w.length; after = d }) (e ∙ ap (λ (h : Held). cond w.sends (with_held port1 h m) m) o)
        ∙ done_by (leb long room) w (sym answered ∙ h)

pub buffer_is : (m : Module) (packet b c : List ℕ) (own : Held) → own ≡ held_now m → c ≡ put_within b 0 (reply_bytes (reply_from own packet)) → c ≡ poll_buffer m packet b
unfolding poll_buffer poll_reply
buffer_is m packet b c own o e = e ∙ ap (λ (h : Held). put_within b 0 (reply_bytes (reply_from h packet))) o
