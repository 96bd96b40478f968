-- Items of a line, as a step gets them.
use Prim.Native.Nat.{ℕ, zero, suc, ◌+◌, ◌-◌, ◌≤◌, ◌<◌}
use mathlib.Core.Path.{◌≡◌, refl, sym, ap, ◌∙◌}
use mathlib.Core.Bool.{true, false, ◌&&◌}
use mathlib.Core.List.{List, [], ◌∷◌, ◌++◌, map, append-nil}
use native.Mathlib.Omega.{arith}
use lib.Dec.{eqb}
use lib.IntN.{ℤ, pos}
use lib.ListN.{length, take, drop, get_or, replicate, get_or-append, length-replicate, replicate-append-replicate}
use lib.Seq.{take_at, drop_at}
use borrow.Author.Tests.{lt-ltb, le-ltb}
use Rattle.aberzhan.specs.declared.Module.{Module}
use Rattle.std.specs.Prelude.{Result, Ok, Err}
use Rattle.refusal.specs.declared.Refusal.{Refusal}
use Rattle.steps.specs.Answers.{OrRefusal, refused, accepted, and_then, answer_of}
use Rattle.aberzhan.specs.Module.{Outcome, stepped, open_of, block_of}
use Rattle.aberzhan.specs.Polling.{poll_of, poll_buffer}
use Rattle.console.specs.declared.words.Word.{Word}
use Rattle.console.specs.declared.words.Word.TheVariants.{Start, Open, Write, Commit, Drop, Hold, Read, Poll, Block, Reset, Cards, Help, Other}
use Rattle.console.specs.declared.unread.Why.{Why}
use Rattle.console.specs.declared.unread.Why.TheVariants.{TooLong, Missing}
use Rattle.console.specs.declared.items.Row.{Row}
use Rattle.console.specs.declared.turns.Reply.{Reply}
use Rattle.console.specs.declared.turns.Said.{Said}
use Rattle.console.specs.declared.turns.Said.TheVariants as said
use Rattle.console.specs.Texts.{begins_with, length_to}
use Rattle.console.specs.Items.{row_of, samples, bytes, Filled}
use Rattle.console.specs.Words.{word_of, items_of, enough}
use Rattle.console.specs.Unread.{stopped_before, slice_stopped, packet_stopped}
use Rattle.console.specs.Turns.{Turn, turned, answered_turn, nth, unread_turn, stepped_turn, told_reply, polled_turn, started_turn, items_turn, with_items, with_text, packet_turn}
use Rattle.console.specs.Turns.{barred, slice_turn, s3_turn, word_turn, turn_of}
use Rattle.console.specs.Inside.{Ended, Stopped}
use Rattle.console.proofs.ItemLaws.{taken_out, packet_out}

-- what is said of a step that answers nothing
pub done_turn : (d : OrRefusal Said) (r : Result (Unit {0}) Refusal) (m : Module) (o : Outcome (Unit {0})) → d ≡ and_then (answer_of r) (λ u. said.Done) → stepped r m ≡ o →
    record { said = d; after = m } ≡ stepped_turn o
done_turn d r m o e f = ap (λ (s : OrRefusal Said). record { said = s; after = m }) e ∙ ap stepped_turn f

-- a start that is refused, and one that is done
module _ (m : Module) (o : Outcome (Unit {0})) where
  pub start_refused : (n : ℕ) → o.answer ≡ refused n → record { said = refused n; after = m } ≡ started_turn m o
  unfolding started_turn
  start_refused n e = rw e refl

  pub start_done : o.answer ≡ accepted tt → record { said = accepted said.Done; after = o.after } ≡ started_turn m o
  unfolding started_turn
  start_done e = rw e refl

-- of a place that there is, whatever is read elsewhere
pub any_default : (x : List ℤ) (k : ℕ) (d e : ℤ) → k < length x → get_or x k d ≡ get_or x k e
any_default [] k d e h = absurd (omega arith)
any_default (y ∷ x) zero d e h = refl
any_default (y ∷ x) (suc k) d e h = any_default x k d e (omega arith)

-- numbers in a row stand over others in a buffer: from each place one of them is read, or else the one below
over : (x below : List ℤ) (k : ℕ) (d : ℤ) → get_or (x ++ drop (length x) below) k d ≡ get_or x k (get_or below k d)
over [] below k d = refl
over (y ∷ x) below zero d = refl
over (y ∷ x) [] (suc k) d = rw append-nil refl
over (y ∷ x) (z ∷ below) (suc k) d = over x below k d

-- what a start's numbers stand over
abbrev pub lowest : List ℤ
lowest = pos 0 ∷ pos 0 ∷ pos 0 ∷ pos 0 ∷ pos 0 ∷ pos 0 ∷ pos 0 ∷ pos 0 ∷ pos 1 ∷ pos 0 ∷ pos 0 ∷ pos 0 ∷ pos 0 ∷ []

items_over : (m : Module) (w : Word) (x : List ℤ) → items_turn m w (x ++ drop (length x) lowest) ≡ items_turn m w x
items_over m Start x =
    rw (
      over x lowest 0,
      over x lowest 1,
      over x lowest 2,
      over x lowest 3,
      over x lowest 4,
      over x lowest 5,
      over x lowest 6,
      over x lowest 7,
      over x lowest 8,
      over x lowest 9,
      over x lowest 10,
      over x lowest 11,
      over x lowest 12,
    )
    refl
items_over m Write x = rw (over x lowest 0, over x lowest 1, over x lowest 2) refl
items_over m Commit x = rw (over x lowest 0) refl
items_over m Drop x = rw (over x lowest 0) refl
items_over m Hold x = rw (over x lowest 0) refl
items_over m Read x = rw (over x lowest 0, over x lowest 1) refl
items_over m Reset x = rw (over x lowest 0) refl
items_over m Open x = refl
items_over m Poll x = refl
items_over m Block x = refl
items_over m Cards x = refl
items_over m Help x = refl
items_over m Other x = refl

-- a word whose items are numbers and names alone
pub with_items_by_words :
    (a b c : ℕ) (m : Module) (w : Word) (rest : List ℕ) → (w ≡ Open → ⊥) → (w ≡ Poll → ⊥) → (w ≡ Block → ⊥) → (w ≡ Other → ⊥) →
    with_items m w rest ≡ word_turn a b c m w rest
with_items_by_words a b c m Start rest o p k e = refl
with_items_by_words a b c m Open rest o p k e = absurd (o refl)
with_items_by_words a b c m Write rest o p k e = refl
with_items_by_words a b c m Commit rest o p k e = refl
with_items_by_words a b c m Drop rest o p k e = refl
with_items_by_words a b c m Hold rest o p k e = refl
with_items_by_words a b c m Read rest o p k e = refl
with_items_by_words a b c m Poll rest o p k e = absurd (p refl)
with_items_by_words a b c m Block rest o p k e = absurd (k refl)
with_items_by_words a b c m Reset rest o p k e = refl
with_items_by_words a b c m Cards rest o p k e = refl
with_items_by_words a b c m Help rest o p k e = refl
with_items_by_words a b c m Other rest o p k e = absurd (e refl)

-- ---- a line with numbers and names alone, once they stand in a buffer
module _ (m : Module) (w : Word) (rest : List ℕ) (r : Row) (b : List ℤ) (f : Filled r lowest b (row_of (items_of w) rest)) where
  pub whole_line : (eqb (length (drop r.taken rest)) 0 && enough w r.count) ≡ true → items_turn m w b ≡ with_items m w rest
  unfolding with_items
  whole_line h = ap (items_turn m w) f.values ∙ items_over m w (row_of (items_of w) rest).values ∙ simp (← f.count, ← f.bytes, h)

  pub not_whole : (eqb (length (drop r.taken rest)) 0 && enough w r.count) ≡ false →
      unread_turn m (stopped_before (drop r.count (items_of w)) (drop r.taken rest)) ≡ with_items m w rest
  unfolding with_items
  not_whole h = simp (← f.count, ← f.bytes, h)

-- ---- a line with a text
module _ (m : Module) (rest : List ℕ) (r : Row) (was b : List ℤ) (f : Filled r was b (row_of (items_of Open) rest)) where
  pub no_port : r.count < 1 → unread_turn m (stopped_before (items_of Open) (drop r.taken rest)) ≡ with_text m rest
  unfolding with_text
  no_port h = simp (← f.count, ← f.bytes, lt-ltb r.count 1 h)

  pub no_text : 1 ≤ r.count → begins_with (32 ∷ []) (drop r.taken rest) ≡ false → unread_turn m Missing ≡ with_text m rest
  unfolding with_text
  no_text h q = simp (← f.count, ← f.bytes, le-ltb r.count 1 h, q)

  pub some_text : 1 ≤ r.count → begins_with (32 ∷ []) (drop r.taken rest) ≡ true → stepped_turn (open_of m (nth b 0) (drop 1 (drop r.taken rest))) ≡ with_text m rest
  unfolding with_text items_of
  some_text h q =
      let x = (row_of (items_of Open) rest).values in
      let p : nth x 0 ≡ nth b 0 = sym (ap (λ (y : List ℤ). nth y 0) f.values ∙ get_or-append x (drop (length x) was) (pos 0) 0 (omega (arith, f.count))) in
      simp (← f.count, le-ltb r.count 1 h, ← f.bytes, q, p)

-- ---- a line with a packet
-- the reply is put at the front of bytes that are 0
module _ (m : Module) (packet : List ℕ) (room : ℕ) (h : room ≤ 255) where
  abbrev nothing : List ℕ
  nothing = replicate 255 0

  halves : nothing ≡ replicate room 0 ++ replicate (255 - room) 0
  halves =
      let e : room + (255 - room) ≡ 255 = omega arith in
      sym (replicate-append-replicate room (255 - room) 0 ∙ ap (λ (n : ℕ). replicate n 0) e)

  front : take room nothing ≡ replicate room 0
  front = ap (take room) halves ∙ take_at (replicate room 0) (replicate (255 - room) 0) room (length-replicate room 0)

  back : drop room nothing ≡ replicate (255 - room) 0
  back = ap (drop room) halves ∙ drop_at (replicate room 0) (replicate (255 - room) 0) room (length-replicate room 0)

  reply_is : (z b : List ℕ) (n : ℕ) → z ≡ nothing → b ≡ poll_buffer m packet (take room z) → record { bytes = b ++ drop room z; length = n } ≡ told_reply m packet room n
  unfolding told_reply
  reply_is z b n q e =
      ap (λ (t : List ℕ). record { bytes = t; length = n })
      (ap (λ (t : List ℕ). t ++ drop room z) (e ∙ ap (poll_buffer m packet) (ap (take room) q ∙ front))
      ∙ ap (λ (t : List ℕ). poll_buffer m packet (replicate room 0) ++ t) (ap (drop room) q ∙ back))

  pub polled_says : (z b : List ℕ) (n : ℕ) (after : Module) → z ≡ nothing → b ≡ poll_buffer m packet (take room z) → stepped (Ok n) after ≡ poll_of m packet room →
      turned (Ok (said.Polled (record { bytes = b ++ drop room z; length = n }))) after ≡ polled_turn m packet room
  polled_says z b n after q e s =
      ap (λ (t : Reply). turned (Ok (said.Polled t)) after) (reply_is z b n q e) ∙ ap (answered_turn (λ k. said.Polled (told_reply m packet room k))) s

pub polled_no : (m : Module) (packet : List ℕ) (room : ℕ) (r : Refusal) (after : Module) → stepped (Err r) after ≡ poll_of m packet room → turned (Err r) after ≡ polled_turn m packet room
polled_no m packet room r after s = ap (answered_turn (λ k. said.Polled (told_reply m packet room k))) s

module _ (m : Module) (room : ℕ) (text : List ℕ) (r : Row) (was : List ℤ) (b : List ℕ) (f : Filled r was (map pos b) (row_of bytes text)) where
  pub odd_byte : r.taken < length text → unread_turn m (packet_stopped r.count) ≡ packet_turn m room text
  unfolding packet_turn
  odd_byte q = simp (← f.count, ← f.bytes, lt-ltb r.taken (length text) q)

  pub whole_packet : length text ≤ r.taken → polled_turn m (take r.count b) room ≡ packet_turn m room text
  unfolding packet_turn
  whole_packet q = simp (packet_out r was b (row_of bytes text) f, ← f.bytes, le-ltb r.taken (length text) q)

-- ---- a line with samples
-- a slice, once its samples stand in a buffer
module _ (room : ℕ) (text : List ℕ) (r : Row) (was b : List ℤ) (f : Filled r was b (row_of (samples room) text)) where
  pub slice_ends : (rest : List ℕ) → barred (drop r.taken text) ≡ true → rest ≡ drop 2 (drop r.taken text) → r.count ≤ length b → Ended r.count rest room text b
  slice_ends rest h e l = record {
    barred = ap (λ (n : ℕ). barred (drop n text)) (sym f.bytes) ∙ h;
    values = taken_out r was b (row_of (samples room) text) f;
    behind = e ∙ ap (λ (n : ℕ). drop 2 (drop n text)) f.bytes;
    fits = l;
  }

  pub slice_stops : (why : Why) → barred (drop r.taken text) ≡ false → why ≡ slice_stopped room r.count (drop r.taken text) → Stopped why room text
  slice_stops why h e = record {
    unbarred = ap (λ (n : ℕ). barred (drop n text)) (sym f.bytes) ∙ h;
    reason = e ∙ rw (f.count, f.bytes) refl;
  }

-- the turn that it makes
module _ (room : ℕ) (m : Module) (text : List ℕ) (more : List ℤ → List ℕ → Turn) where
  pub slice_more : (count : ℕ) (rest : List ℕ) (b : List ℤ) → Ended count rest room text b → more (take count b) rest ≡ slice_turn room m text more
  unfolding slice_turn
  slice_more count rest b e = simp (e.values, e.behind, e.barred)

  pub slice_not : (why : Why) → Stopped why room text → unread_turn m why ≡ slice_turn room m text more
  unfolding slice_turn
  slice_not why e = simp (e.reason, e.unbarred)

-- S3 ends the line
module _ (c : ℕ) (m : Module) (v s1 : List ℤ) (text : List ℕ) (r : Row) (was s3 : List ℤ) (f : Filled r was s3 (row_of (samples c) text)) where
  pub odd_sample : r.taken < length text → unread_turn m (slice_stopped c r.count (drop r.taken text)) ≡ s3_turn c m v s1 text
  unfolding s3_turn
  odd_sample q = simp (← f.count, ← f.bytes, lt-ltb r.taken (length text) q)

  pub whole_block : length text ≤ r.taken → stepped_turn (block_of m v s1 (take r.count s3)) ≡ s3_turn c m v s1 text
  unfolding s3_turn
  whole_block q = simp (taken_out r was s3 (row_of (samples c) text) f, ← f.bytes, le-ltb r.taken (length text) q)

-- ---- a line
module _ (a b c : ℕ) (m : Module) (line : List ℕ) where
  pub long_line : 131071 < length line → unread_turn m TooLong ≡ turn_of a b c m line
  unfolding turn_of
  long_line h = simp (lt-ltb 131071 (length line) h)

  pub line_with : (w : Word) → word_of (take (length_to 32 line) line) ≡ w → length line ≤ 131071 →
      word_turn a b c m w (drop (length_to 32 line) line) ≡ turn_of a b c m line
  unfolding turn_of
  line_with w e h = simp (le-ltb 131071 (length line) h) (ap (λ (u : Word). word_turn a b c m u (drop (length_to 32 line) line)) (sym e))
