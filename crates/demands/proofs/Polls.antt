-- Polls, from the contracts: each counts as its hold and its reads, and every register can be polled.
use Prim.Native.Nat.{ℕ, suc, ◌*◌, ◌≤◌, ◌<◌}
use mathlib.Core.Path.{◌≡◌, refl, sym, ap, subst, ◌∙◌}
use mathlib.Core.Bool.{Bool, true, false, cond, ◌&&◌}
use mathlib.Core.List.{List, [], ◌∷◌, map}
use native.Mathlib.Nat.{zero-add, le_of_suc-le-suc, not-suc-le-zero}
use borrow.Author.Tests.{le-leb, ltb-true, eqb-true}
use lib.Dec.{eqb, leb, ltb}
use lib.IntN.{ℤ, pos}
use lib.ListN.{length, get_or}
use Rattle.std.specs.Prelude.{Ok}
use Rattle.steps.specs.Answers.{OrRefusal, refused, accepted}
use Rattle.steps.specs.Port.{port1, on}
use Rattle.steps.specs.Calls.{Reply as Back, refuses, done, returns, Log}
use Rattle.steps.proofs.Outcomes.{zero_one, refused_never, accepted_is}
use Rattle.serial.specs.Places.{put, put_within}
use Rattle.card.specs.Cards.{bits24, three_bytes, fields_bytes}
use Rattle.address.specs.Addresses.{trackable, untracked, words, byte_of, position, register_of}
use Rattle.sample.proofs.Tests.{both_of}
use Rattle.port.specs.declared.Held.{Held}
use Rattle.port.specs.Holds.{interval, register, copied}
use Rattle.port.specs.Reading.{registers, slot_off, look}
use Rattle.packet.specs.Commands.{Asked}
use Rattle.packet.specs.Replies.{Reply, values, sending, read_all, replied, reply_to, with_sum, values_reply, reply_bytes}
use Rattle.packet.specs.Requests.{read_packet}
use Rattle.packet.proofs.Requests.{asks_one}
use Rattle.poll.specs.Polls.{read_at, reply_from}
use Rattle.aberzhan.specs.declared.Module.{Module}
use Rattle.aberzhan.specs.declared.Holding.{Holding}
use Rattle.calls.specs.Ports.{aberzhan}
use Rattle.aberzhan.specs.Module.{Outcome, refusal, with_held, port_at, hold_of, read_of}
use Rattle.aberzhan.specs.Polling.{held_now, poll_reply, after_reply, poll_of, poll_buffer}
use Rattle.calls.specs.Calls.{read_reply}
use Rattle.calls.specs.Turns.{read_call}
use Rattle.calls.specs.Counting.{values_read}
use Rattle.calls.proofs.Contracts.{polled_is, held_by, allowed_is}
use Rattle.calls.proofs.Ran.{ran_is}
use Rattle.calls.proofs.Counting.{poll_counts}
use Rattle.demands.specs.Polls.{PollsTell, EveryRegister}

-- ---- a poll is its hold and its reads
module _ (m : Module) (packet buffer : List ℕ) where
  abbrev bytes : List ℕ
  bytes = reply_bytes (poll_reply m packet)

  abbrev outcome : Bool → Outcome ℕ
  outcome fits = cond fits (record { answer = accepted (length bytes); after = after_reply (poll_reply m packet) m }) (refusal 21 m)

  answer_by : (fits : Bool) → (outcome fits).answer ≡ cond fits (accepted (length bytes)) (refused 21)
  answer_by true = refl
  answer_by false = refl

  answer_is : (poll_of m packet (length buffer)).answer ≡ cond (leb (length bytes) (length buffer)) (accepted (length bytes)) (refused 21)
  unfolding poll_of
  answer_is = answer_by (leb (length bytes) (length buffer))

  refused_by : (fits : Bool) (n : ℕ) → (outcome fits).answer ≡ refused n → ((outcome fits).after ≡ m) × (cond {A = List ℕ} fits (put buffer 0 bytes) buffer ≡ buffer)
  refused_by true n e = refused_never (sym e)
  refused_by false n e = (refl, refl)

  buffer_by : poll_buffer m packet buffer ≡ cond {A = List ℕ} (leb (length bytes) (length buffer)) (put buffer 0 bytes) buffer
  unfolding poll_buffer put_within
  buffer_by = ap (λ (n : ℕ). cond {A = List ℕ} (leb n (length buffer)) (put buffer 0 bytes) buffer) (zero-add (length bytes))

  refused_is : (n : ℕ) → (poll_of m packet (length buffer)).answer ≡ refused n → ((poll_of m packet (length buffer)).after ≡ m) × (poll_buffer m packet buffer ≡ buffer)
  unfolding poll_of
  refused_is n e = let z = refused_by (leb (length bytes) (length buffer)) n e in (z.0, buffer_by ∙ z.1)

  done_by : (fits : Bool) (n : ℕ) → (outcome fits).answer ≡ accepted n → (n ≡ length bytes) × (cond {A = List ℕ} fits (put buffer 0 bytes) buffer ≡ put buffer 0 bytes)
  done_by true n e = (sym (accepted_is e), refl)
  done_by false n e = refused_never e

  done_is : (n : ℕ) → (poll_of m packet (length buffer)).answer ≡ accepted n → (n ≡ length bytes) × (poll_buffer m packet buffer ≡ put buffer 0 bytes)
  unfolding poll_of
  done_is n e = let z = done_by (leb (length bytes) (length buffer)) n e in (z.0, buffer_by ∙ z.1)

pub polls_tell : PollsTell
polls_tell m packet buffer r z left h =
    let q = polled_is m packet buffer r z left h in
    let k = poll_counts m packet buffer in
    let answer = ap (λ (o : Outcome ℕ). o.answer) q.0 in
    let after = ap (λ (o : Outcome ℕ). o.after) q.0 in
    record {
      answer = answer ∙ answer_is m packet buffer;
      none_refused = λ l c. ap (λ (l : Log aberzhan Module). l.refusals) (ran_is c) ∙ k.none_refused;
      same_module = λ l c. after ∙ k.same_module ∙ sym (ap (λ (l : Log aberzhan Module). l.end) (ran_is c));
      same_values = λ l c a more e. q.1 ∙ k.same_values a more e ∙ ap (λ (l : Log aberzhan Module). put buffer 0 (values_reply (values_read (on l.heard port1)))) (sym (ran_is c));
      whole_reply = λ n e. let d = done_is m packet buffer n (sym answer ∙ e) in (d.0, q.1 ∙ d.1);
      no_data = λ e n d. k.no_data e n (sym answer ∙ d);
      else_as_it_came = λ e. after ∙ k.else_as_it_came e;
      refused_as_it_came = λ n e. let d = refused_is m packet buffer n (sym answer ∙ e) in (after ∙ d.0, q.1 ∙ d.1);
    }

-- ---- every register
module _ (m : Module) where
  -- what an accepted hold leaves on port 1 is what a poll is answered from
  hold_by : (any : Bool) → m.meter.work.any ≡ any → (h : Holding) → (hold_of m (pos 1)).answer ≡ accepted h → (hold_of m (pos 1)).after ≡ with_held port1 (held_now m) m
  unfolding hold_of port_at copied
  hold_by true e h d = rw e refl
  hold_by false e h d = refused_never (rw e at d)

value_of : Back aberzhan → ℤ
value_of (returns (register v)) = v
value_of (returns (interval n s k a)) = pos 0
value_of (refuses n) = pos 0
value_of done = pos 0

-- the value that a read returned is the register's
given_by : (q : OrRefusal ℤ) (v : ℤ) → read_reply q ≡ returns (register v) → q ≡ accepted v
unfolding value_of
given_by (refused n) v e = zero_one cc
given_by (accepted w) v e = ap accepted (ap value_of e)

module _ (m : Module) (a : ℕ) (v : ℤ) (gives : read_at (held_now m) a ≡ accepted v) where
  abbrev to_asked : Asked → Reply
  to_asked q = replied (read_all (read_at (held_now m)) q.registers) q.ending

  reply_one : poll_reply m (read_packet a) ≡ values (v ∷ [])
  unfolding poll_reply reply_from reply_to sending
  reply_one = ap to_asked (asks_one a) ∙ (rw gives refl)

  bytes_one : reply_bytes (poll_reply m (read_packet a)) ≡ with_sum (0xAA ∷ 6 ∷ three_bytes (bits24 v))
  unfolding reply_bytes values_reply fields_bytes three_bytes
  bytes_one = ap reply_bytes reply_one

  long_one : length (reply_bytes (poll_reply m (read_packet a))) ≡ 6
  unfolding three_bytes with_sum
  long_one = ap length bytes_one

  -- where there is room for it
  module _ (buffer : List ℕ) (room : 6 ≤ length buffer) where
    fits : leb (length (reply_bytes (poll_reply m (read_packet a)))) (length buffer) ≡ true
    fits = ap (λ (n : ℕ). leb n (length buffer)) long_one ∙ le-leb 6 (length buffer) room

    one_polled : let r = poll_of m (read_packet a) (length buffer) in (r.answer ≡ accepted 6) × (r.after ≡ with_held port1 (held_now m) m)
    unfolding poll_of
    one_polled = rw fits (ap accepted long_one, ap (λ (r : Reply). after_reply r m) reply_one)

    one_put : poll_buffer m (read_packet a) buffer ≡ put buffer 0 (with_sum (0xAA ∷ 6 ∷ three_bytes (bits24 v)))
    one_put = buffer_by m (read_packet a) buffer ∙ ap (λ (b : Bool). cond {A = List ℕ} b (put buffer 0 (reply_bytes (poll_reply m (read_packet a)))) buffer) fits ∙ ap (put buffer 0) bytes_one

-- ---- the table's byte addresses are below 65,536
abbrev all_below : List ℕ → Bool
all_below [] = true
all_below (y ∷ ys) = ltb y 65536 && all_below ys

below_by : (x : ℕ) (ys : List ℕ) → position x ys < length ys → all_below ys ≡ true → x < 65536
unfolding position
below_by x [] l e = absurd (not-suc-le-zero l)
below_by x (y ∷ ys) l e = go (eqb y x) refl l (λ k. below_by x ys k (both_of (ltb y 65536) (all_below ys) e).1)
  where
    go : (b : Bool) → eqb y x ≡ b → cond b 0 (suc (position x ys)) < suc (length ys) → (position x ys < length ys → x < 65536) → x < 65536
    go true q l more = subst (λ (n : ℕ). n < 65536) (eqb-true y x q) (ltb-true y 65536 (both_of (ltb y 65536) (all_below ys) e).0)
    go false q l more = more (le_of_suc-le-suc l)

-- an address that a read takes stands in the table
read_below : (h : Held) (a : ℕ) (v : ℤ) → read_at h a ≡ accepted v → a < 65536
unfolding look register_of byte_of words trackable untracked
read_below h a v e = go h.any (ltb (register_of (record { 0 = a })) 29) refl e
  where
    go : (any known : Bool) → ltb (register_of (record { 0 = a })) 29 ≡ known →
        cond any (cond known (cond (slot_off h.track (register_of (record { 0 = a }))) (refused 17) (accepted (get_or (registers h.closed.regs) (register_of (record { 0 = a })) (pos 0)))) (refused 16)) (refused 15) ≡ accepted v → a < 65536
    go true true q e = below_by a (map (λ (w : ℕ). 3 * w) words) (ltb-true _ _ q) refl
    go true false q e = refused_never e
    go false known q e = refused_never e

pub every_register : EveryRegister
unfolding read_of port_at
every_register m z a v h o holds allows gave =
    let e = held_by m (pos 1) (Ok h) z holds in
    let held = hold_by m m.meter.work.any refl h (sym (ap (λ (o : Outcome Holding). o.answer) e)) in
    let left_by : z ≡ with_held port1 (held_now m) m = ap (λ (o : Outcome Holding). o.after) e ∙ held in
    let now : z.hold1 ≡ held_now m = ap (λ (z : Module). z.hold1) left_by in
    let back : read_reply (read_at z.hold1 a) ≡ returns (register v) = sym (ap (λ (o : Back aberzhan × Module). o.0) (allowed_is (read_call a) z o allows)) ∙ gave in
    let gives = ap (λ (h : Held). read_at h a) (sym now) ∙ given_by (read_at z.hold1 a) v back in
    record {
      address = read_below (held_now m) a v gives;
      answered = λ buffer r after left polls room.
          let q = polled_is m (read_packet a) buffer r after left polls in
          let one = one_polled m a v gives buffer room in (
            ap (λ (o : Outcome ℕ). o.answer) q.0 ∙ one.0,
            q.1 ∙ one_put m a v gives buffer room,
            ap (λ (o : Outcome ℕ). o.after) q.0 ∙ one.1 ∙ sym left_by,
          );
    }
