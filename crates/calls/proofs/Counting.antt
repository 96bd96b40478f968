-- A poll counts as its hold and its reads.
use Prim.Native.Nat.{ℕ, ◌+◌, ◌*◌, ◌≤◌}
use mathlib.Core.Path.{◌≡◌, refl, sym, ap, subst, ◌∙◌}
use mathlib.Core.Bool.{Bool, true, false, cond, ◌&&◌, and-false, true≢false}
use mathlib.Core.List.{List, [], ◌∷◌, map}
use native.Mathlib.Nat.{zero-add}
use native.Mathlib.Omega.{arith}
use lib.Dec.{eqb, leb, ltb}
use lib.IntN.{ℤ, pos}
use lib.ListN.{length}
use borrow.Author.Tests.{leb-true}
use Rattle.steps.specs.Answers.{OrRefusal, refused, accepted}
use Rattle.steps.specs.Port.{port1, on}
use Rattle.steps.specs.Module.{Op, hold, read}
use Rattle.steps.specs.Calls.{Reply as Rep, returns, Log, noted}
use Rattle.steps.proofs.Outcomes.{zero_one, refused_never, accepted_is}
use Rattle.serial.specs.Places.{put}
use Rattle.serial.proofs.Places.{put_fits}
use Rattle.port.specs.declared.Held.{Held}
use Rattle.port.specs.Holds.{Value, register, copy_of, copied, nothing_held, told}
use Rattle.port.specs.Reading.{look}
use Rattle.packet.specs.declared.Ending.{Ending}
use Rattle.packet.specs.declared.Ending.TheVariants.{Whole, Fails, Unanswered}
use Rattle.packet.specs.Commands.{asked_by}
use Rattle.packet.specs.Replies.{Reply, no_reply, code, values, joined, read_all, sending, replied, reply_to, values_reply, reply_bytes, sends}
use Rattle.poll.specs.Polls.{read_at, reply_from}
use Rattle.aberzhan.specs.declared.Module.{Module}
use Rattle.calls.specs.Ports.{aberzhan}
use Rattle.aberzhan.specs.Module.{Outcome, refusal, with_held, port_at, hold_of, read_of}
use Rattle.aberzhan.specs.Polling.{held_now, poll_reply, after_reply, poll_of, poll_buffer}
use Rattle.calls.specs.Calls.{Call, call_hold, step_of, returned, program}
use Rattle.calls.specs.Turns.{sent_by, read_call, poll_calls}
use Rattle.calls.specs.Counting.{values_read, PollCounts}

-- ---- a reply that sends registers

record Sending (q : OrRefusal (List ℤ)) (r : Reply) : Type 0 where
  vs : List ℤ
  read_is : q ≡ accepted vs
  reply_is : r ≡ values vs
  some : vs ≡ [] → ⊥

sending_by : (vs : List ℤ) (many empty : Bool) → eqb (length vs) 0 ≡ empty → let r = cond many (code 0xBF) (cond empty (code 0xAD) (values vs)) in
    sends r ≡ true → Sending (accepted vs) r
sending_by vs true empty e h = absurd (true≢false (sym h))
sending_by vs false true e h = absurd (true≢false (sym h))
sending_by vs false false e h = record { vs = vs; read_is = refl; reply_is = refl; some = λ n. true≢false (sym (ap (λ (l : List ℤ). eqb (length l) 0) n) ∙ e) }

sends_by : (q : OrRefusal (List ℤ)) (e : Ending) → sends (replied q e) ≡ true → Sending q (replied q e)
unfolding sending
sends_by (refused n) e h = absurd (true≢false (sym h))
sends_by (accepted vs) Whole h = sending_by vs (ltb 252 (3 * length vs)) (eqb (length vs) 0) refl h
sends_by (accepted vs) (Fails c) h = absurd (true≢false (sym h))
sends_by (accepted vs) Unanswered h = absurd (true≢false (sym h))

-- ---- its reads, one by one

record Joined (q : OrRefusal ℤ) (s : OrRefusal (List ℤ)) (vs : List ℤ) : Type 0 where
  v : ℤ
  ws : List ℤ
  first : q ≡ accepted v
  rest : s ≡ accepted ws
  all : vs ≡ v ∷ ws

joined_by : (q : OrRefusal ℤ) (s : OrRefusal (List ℤ)) (vs : List ℤ) → joined q s ≡ accepted vs → Joined q s vs
joined_by (refused n) s vs e = refused_never e
joined_by (accepted v) (refused n) vs e = refused_never e
joined_by (accepted v) (accepted ws) vs e = record { v = v; ws = ws; first = refl; rest = refl; all = sym (accepted_is e) }

-- what they are heard as
abbrev entries : List ℕ → List ℤ → List (Op aberzhan × Value)
entries [] vs = []
entries (a ∷ r) [] = []
entries (a ∷ r) (v ∷ vs) = (read (record { 0 = a }), register v) ∷ entries r vs

abbrev read_log : Module → List (Op aberzhan × Value) → Log aberzhan Module
read_log m es = record { refusals = 0; heard = record { on0 = []; on1 = es }; end = m }

module _ (m : Module) where
  one_read : (a : ℕ) (r : List ℕ) (v : ℤ) (es : List (Op aberzhan × Value)) → read_at m.hold1 a ≡ accepted v → program (map read_call r) m ≡ read_log m es →
      program (map read_call (a ∷ r)) m ≡ read_log m ((read (record { 0 = a }), register v) ∷ es)
  unfolding read_of port_at
  one_read a r v es e q = rw (e, q) refl

  reads_run : (r : List ℕ) (vs : List ℤ) → read_all (read_at m.hold1) r ≡ accepted vs → program (map read_call r) m ≡ read_log m (entries r vs)
  reads_run [] vs e = refl
  reads_run (a ∷ r) vs e =
      let j = joined_by (read_at m.hold1 a) (read_all (read_at m.hold1) r) vs e in
      one_read a r j.v (entries r j.ws) j.first (reads_run r j.ws j.rest) ∙ ap (λ (vs : List ℤ). read_log m (entries (a ∷ r) vs)) (sym j.all)

  values_heard : (r : List ℕ) (vs : List ℤ) → read_all (read_at m.hold1) r ≡ accepted vs → values_read (entries r vs) ≡ vs
  values_heard [] vs e = accepted_is e
  values_heard (a ∷ r) vs e =
      let j = joined_by (read_at m.hold1 a) (read_all (read_at m.hold1) r) vs e in
      ap (λ (vs : List ℤ). values_read (entries (a ∷ r) vs)) j.all ∙ ap (λ (ws : List ℤ). j.v ∷ ws) (values_heard r j.ws j.rest) ∙ sym j.all

-- ---- the hold before them

-- of nothing held every register is refused, so registers are sent only where an interval has closed
nothing_given : (a : ℕ) (r : List ℕ) (vs : List ℤ) → read_all (read_at nothing_held) (a ∷ r) ≡ accepted vs → ⊥
unfolding look
nothing_given a r vs e = refused_never e

module _ (m : Module) where
  abbrev last : Held
  last = let w = m.meter.work in copy_of w.last w.settings.track

  abbrev held : Module
  held = with_held port1 last m

  now_by : (b : Bool) → m.meter.work.any ≡ b → held_now m ≡ cond b last nothing_held
  unfolding copied
  now_by true q = rw q refl
  now_by false q = rw q refl

  -- the hold, where an interval has closed, and the calls behind it
  hold_returned : m.meter.work.any ≡ true → returned (call_hold (pos 1)) m ≡ (returns (told m.watch.alarms last), held)
  unfolding hold_of port_at copied
  hold_returned q = rw q refl

  hold_run : m.meter.work.any ≡ true → (ks : List Call) (es : List (Op aberzhan × Value)) → program ks held ≡ read_log held es →
      program (call_hold (pos 1) ∷ ks) m ≡ read_log held ((hold tt, told m.watch.alarms last) ∷ es)
  unfolding port_at
  hold_run q ks es e =
      ap (λ (r : Rep aberzhan × Module). noted aberzhan Module (step_of (call_hold (pos 1))) r.0 (program ks r.1)) (hold_returned q)
      ∙ ap (noted aberzhan Module (step_of (call_hold (pos 1))) (returns (told m.watch.alarms last))) e

  module _ (a : ℕ) (more : List ℕ) (vs : List ℤ) (e : read_all (read_at (held_now m)) (a ∷ more) ≡ accepted vs) where
    has_closed : m.meter.work.any ≡ true
    has_closed = go m.meter.work.any refl
      where
        go : (b : Bool) → m.meter.work.any ≡ b → b ≡ true
        go true q = refl
        go false q = absurd (nothing_given a more vs (subst (λ (h : Held). read_all (read_at h) (a ∷ more) ≡ accepted vs) (now_by false q) e))

    read_last : read_all (read_at last) (a ∷ more) ≡ accepted vs
    read_last = subst (λ (h : Held). read_all (read_at h) (a ∷ more) ≡ accepted vs) (now_by true has_closed) e

    sent_run : program (poll_calls (a ∷ more)) m ≡ read_log held ((hold tt, told m.watch.alarms last) ∷ entries (a ∷ more) vs)
    sent_run = hold_run has_closed (map read_call (a ∷ more)) (entries (a ∷ more) vs) (reads_run held (a ∷ more) vs read_last)

-- ---- so it is
module _ (m : Module) (packet buffer : List ℕ) where
  abbrev regs : List ℕ
  regs = (asked_by packet).registers

  abbrev given : OrRefusal (List ℤ)
  given = read_all (read_at (held_now m)) regs

  abbrev Counted : List ℕ → Reply → Bool → Type 0
  Counted sent r fits =
      let l = program (poll_calls sent) m in
      (l.refusals ≡ 0) × (cond {A = Module} fits (after_reply r m) m ≡ l.end)
      × ((a : ℕ) (more : List ℕ) → sent ≡ a ∷ more → (fits ≡ true) × (reply_bytes r ≡ values_reply (values_read (on l.heard port1))))
      × (sent ≡ [] → cond fits (length (reply_bytes r)) 0 ≤ 1)

  -- nothing is sent
  not_counted : (r : Reply) (fits : Bool) → cond {A = Module} fits (after_reply r m) m ≡ m → cond fits (length (reply_bytes r)) 0 ≤ 1 → Counted [] r fits
  not_counted r fits e n = (refl, e, λ a more q. zero_one cc, λ q. n)

  -- a reply that sends no register has one byte at most
  short_reply : (r : Reply) → sends r ≡ false → length (reply_bytes r) ≤ 1
  unfolding reply_bytes
  short_reply no_reply e = omega arith
  short_reply (code n) e = omega arith
  short_reply (values vs) e = absurd (true≢false e)

  -- registers are sent
  counted : (a : ℕ) (more : List ℕ) (vs : List ℤ) → read_all (read_at (held_now m)) (a ∷ more) ≡ accepted vs → Counted (a ∷ more) (values vs) true
  unfolding reply_bytes
  counted a more vs e =
      let q = sent_run m a more vs e in
      let heard = ap (λ (l : Log aberzhan Module). values_read (on l.heard port1)) q ∙ values_heard (held m) (a ∷ more) vs (read_last m a more vs e) in (
        ap (λ (l : Log aberzhan Module). l.refusals) q,
        ap (λ (h : Held). with_held port1 h m) (now_by m true (has_closed m a more vs e)) ∙ sym (ap (λ (l : Log aberzhan Module). l.end) q),
        λ b rest p. (refl, ap values_reply (sym heard)),
        λ p. zero_one cc,
      )

  all_counted : (rs : List ℕ) (r : Reply) → Sending (read_all (read_at (held_now m)) rs) r → Counted rs r true
  all_counted [] r s = absurd (s.some (accepted_is (sym s.read_is)))
  all_counted (a ∷ more) r s = subst (λ (r : Reply). Counted (a ∷ more) r true) (sym s.reply_is) (counted a more s.vs s.read_is)

  abbrev reply : Reply
  reply = replied given (asked_by packet).ending

  reply_is : poll_reply m packet ≡ reply
  unfolding poll_reply reply_from reply_to
  reply_is = refl

  counts_by : (s f : Bool) → sends reply ≡ s → Counted (cond (s && f) regs []) reply f
  counts_by true true e = all_counted regs reply (sends_by given (asked_by packet).ending e)
  counts_by s false e = rw (and-false s) (not_counted reply false refl (omega arith))
  counts_by false true e = not_counted reply true (ap (λ (b : Bool). cond {A = Module} b (with_held port1 (held_now m) m) m) e) (short_reply reply e)

  abbrev fits : Bool
  fits = leb (length (reply_bytes (poll_reply m packet))) (length buffer)

  abbrev sent : List ℕ
  sent = sent_by m packet (length buffer)

  counts : Counted sent (poll_reply m packet) fits
  unfolding sent_by
  counts = subst (λ (r : Reply). let f = leb (length (reply_bytes r)) (length buffer) in Counted (cond (sends r && f) regs []) r f) (sym reply_is)
      (counts_by (sends reply) (leb (length (reply_bytes reply)) (length buffer)) refl)

  abbrev outcome : Bool → Outcome ℕ
  outcome f = cond f (record { answer = accepted (length (reply_bytes (poll_reply m packet))); after = after_reply (poll_reply m packet) m }) (refusal 21 m)

  after_by : (poll_of m packet (length buffer)).after ≡ cond {A = Module} fits (after_reply (poll_reply m packet) m) m
  unfolding poll_of
  after_by = go fits
    where
      go : (f : Bool) → (outcome f).after ≡ cond {A = Module} f (after_reply (poll_reply m packet) m) m
      go true = refl
      go false = refl

  length_by : (n : ℕ) → (poll_of m packet (length buffer)).answer ≡ accepted n → n ≡ cond fits (length (reply_bytes (poll_reply m packet))) 0
  unfolding poll_of
  length_by n = go fits
    where
      go : (f : Bool) → (outcome f).answer ≡ accepted n → n ≡ cond f (length (reply_bytes (poll_reply m packet))) 0
      go true e = sym (accepted_is e)
      go false e = refused_never e

  sent_bytes : (bytes : List ℕ) → fits ≡ true → reply_bytes (poll_reply m packet) ≡ bytes → poll_buffer m packet buffer ≡ put buffer 0 bytes
  unfolding poll_buffer
  sent_bytes bytes f e =
      put_fits buffer (reply_bytes (poll_reply m packet)) 0 (leb-true (0 + length (reply_bytes (poll_reply m packet))) (length buffer) (ap (λ (n : ℕ). leb n (length buffer)) (zero-add _) ∙ f))
      ∙ ap (put buffer 0) e

  pub poll_counts : PollCounts m packet buffer
  poll_counts =
      let k = counts in
      record {
        none_refused = k.0;
        same_module = after_by ∙ k.1;
        same_values = λ a more e. let v = k.2 a more e in sent_bytes _ v.0 v.1;
        no_data = λ e n q. subst (λ (n : ℕ). n ≤ 1) (sym (length_by n q)) (k.3 e);
        else_as_it_came = λ e. after_by ∙ k.1 ∙ ap (λ (r : List ℕ). (program (poll_calls r) m).end) e;
      }
