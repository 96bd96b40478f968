-- What a line comes to: the step that it is, handed to the module, and what is said of it.
use Rattle.std.specs.Prelude.{ℕ, ◌-◌, Bool, cond, ◌&&◌, Option, Some, None, Result, List, [], ◌∷◌, ◌++◌, eqb, ltb, ℤ, pos, nat_abs, length, take, drop, get_or, replicate}
use Rattle.address.specs.Addresses.{word_addr, byte_addr}
use Rattle.alarm.specs.declared.Asked.{Asked}
use Rattle.refusal.specs.declared.Refusal.{Refusal}
use Rattle.steps.specs.Answers.{OrRefusal, refused, accepted, and_then, answer_of}
use Rattle.aberzhan.specs.declared.Module.{Module}
use Rattle.aberzhan.specs.declared.Holding.{Holding}
use Rattle.aberzhan.specs.Module.{Outcome, start_of, open_of, write_of, commit_of, drop_of, hold_of, read_of, block_of, reset_of}
use Rattle.aberzhan.specs.Cards.{cards_of}
use Rattle.aberzhan.specs.Polling.{poll_of, poll_buffer}
use Rattle.console.specs.declared.words.Word.{Word}
use Rattle.console.specs.declared.words.Word.TheVariants as word
use Rattle.console.specs.declared.words.Kind.TheVariants as kind
use Rattle.console.specs.declared.items.Next.{Next}
use Rattle.console.specs.declared.unread.Why.{Why}
use Rattle.console.specs.declared.unread.Why.TheVariants as why
use Rattle.console.specs.declared.turns.Said.{Said}
use Rattle.console.specs.declared.turns.Said.TheVariants as said
use Rattle.console.specs.declared.turns.Reply.{Reply}
use Rattle.console.specs.Texts.{begins_with, length_to}
use Rattle.console.specs.Items.{next_of, row_of, samples, bytes, packet_of}
use Rattle.console.specs.Words.{word_of, items_of, enough}
use Rattle.console.specs.Unread.{stopped_before, slice_stopped, packet_stopped}

-- ---- what is said

-- what is said, or the refusal; and the module after the step
pub record Turn : Type 0 where
  pub said : OrRefusal Said
  pub after : Module

-- the same of what the code returns and leaves
abbrev pub turned : Result Said Refusal → Module → Turn
turned r m = record { said = answer_of r; after = m }

-- a turn that leaves the module as it came
abbrev pub says : Said → Module → Turn
says s m = record { said = accepted s; after = m }

abbrev pub unread_turn : Module → Why → Turn
unread_turn m why = says (said.Unread why) m

-- what is said of a step's answer
abbrev pub answered_turn : {A : Type 0} → (A → Said) → Outcome A → Turn
answered_turn say o = record { said = and_then o.answer say; after = o.after }

abbrev pub stepped_turn : Outcome (Unit {0}) → Turn
stepped_turn o = answered_turn (λ u. said.Done) o

-- an interval's number, its serial and its counts of clipped samples; and the alarms
abbrev pub held_turn : Outcome Holding → Turn
held_turn o = answered_turn (λ h. said.Held h) o

abbrev pub read_turn : Module → OrRefusal ℤ → Turn
read_turn m r = record { said = and_then r (λ x. said.Value x); after = m }

-- the serials of the card in force and of the one that waits
abbrev pub cards_turn : Module → Turn
cards_turn m = says (said.Cards (cards_of m)) m

-- the reply, of so many bytes, at the front of the room that is lent for it
unfoldable pub told_reply : Module → List ℕ → ℕ → ℕ → Reply
told_reply m packet room n = record { bytes = poll_buffer m packet (replicate room 0) ++ replicate (255 - room) 0; length = n }

abbrev pub polled_turn : Module → List ℕ → ℕ → Turn
polled_turn m packet room = answered_turn (λ n. said.Polled (told_reply m packet room n)) (poll_of m packet room)

-- a refused start keeps the module that runs
abbrev pub begun_by : OrRefusal (Unit {0}) → Module → Module → Module
begun_by (accepted u) new m = new
begun_by (refused n) new m = m

unfoldable pub started_turn : Module → Outcome (Unit {0}) → Turn
started_turn m s = record { said = and_then s.answer (λ u. said.Done); after = begun_by s.answer s.after m }

-- ---- steps with numbers and names alone

abbrev pub nth : List ℤ → ℕ → ℤ
nth x k = get_or x k (pos 0)

-- what a start asks of its alarms; left out, 1 0 0 0. Behind it stands its configuration; left out, 0
abbrev pub asked_of : List ℤ → Asked
asked_of x = record { w = get_or x 8 (pos 1); vsag = nth x 9; vsurge = nth x 10; sticky = nth x 11 }

abbrev pub start_turn : Module → List ℤ → Turn
start_turn m x =
    started_turn m
    (start_of (nth x 0) (nth x 1)
    (word_addr (nth x 2) ∷ word_addr (nth x 3) ∷ word_addr (nth x 4) ∷ word_addr (nth x 5) ∷ word_addr (nth x 6) ∷ word_addr (nth x 7) ∷ [])
    (asked_of x) (nth x 12))

abbrev pub items_turn : Module → Word → List ℤ → Turn
items_turn m word.Start x = start_turn m x
items_turn m word.Write x = stepped_turn (write_of m (nth x 0) (nth x 1) (nth x 2))
items_turn m word.Commit x = stepped_turn (commit_of m (nth x 0))
items_turn m word.Drop x = stepped_turn (drop_of m (nth x 0))
items_turn m word.Hold x = held_turn (hold_of m (nth x 0))
items_turn m word.Read x = read_turn m (read_of m (nth x 0) (byte_addr (nth x 1)))
items_turn m word.Reset x = stepped_turn (reset_of m (nth x 0))
items_turn m word.Cards x = cards_turn m
items_turn m word.Help x = says said.Help m
items_turn m word.Open x = unread_turn m why.NoStep
items_turn m word.Poll x = unread_turn m why.NoStep
items_turn m word.Block x = unread_turn m why.NoStep
items_turn m word.Other x = unread_turn m why.NoStep

-- enough of the items that the step has, and nothing behind them
unfoldable pub with_items : Module → Word → List ℕ → Turn
with_items m w rest =
    let row = row_of (items_of w) rest in
    let count = length row.values in
    let behind = drop row.bytes rest in
    cond (eqb (length behind) 0 && enough w count) (items_turn m w row.values)
    (unread_turn m (stopped_before (drop count (items_of w)) behind))

-- ---- open: the text is all that follows the space behind the port
unfoldable pub with_text : Module → List ℕ → Turn
with_text m rest =
    let row = row_of (items_of word.Open) rest in
    let behind = drop row.bytes rest in
    cond (ltb (length row.values) 1) (unread_turn m (stopped_before (items_of word.Open) behind))
    (cond (begins_with (32 ∷ []) behind) (stepped_turn (open_of m (nth row.values 0) (drop 1 behind)))
    (unread_turn m why.Missing))

-- ---- poll: the room for the reply, and the bytes of the packet, which end the line
unfoldable pub packet_turn : Module → ℕ → List ℕ → Turn
packet_turn m room text =
    let row = row_of bytes text in
    cond (ltb row.bytes (length text)) (unread_turn m (packet_stopped (length row.values)))
    (polled_turn m (packet_of row) room)

abbrev pub behind_room : Module → List ℕ → Option Next → Turn
behind_room m rest (Some i) = packet_turn m (nat_abs i.worth) (drop i.taken rest)
behind_room m rest None = unread_turn m (stopped_before (items_of word.Poll) rest)

unfoldable pub with_packet : Module → List ℕ → Turn
with_packet m rest = behind_room m rest (next_of kind.Room rest)

-- ---- block: slices of V, S1 and S3 with a bar between two; at most a, b and c samples
-- a bar is a space and 124
abbrev pub barred : List ℕ → Bool
barred text = begins_with (32 ∷ 124 ∷ []) text

-- a slice with a bar behind it; its samples, and the text behind the bar, make the turn
unfoldable pub slice_turn : ℕ → Module → List ℕ → (List ℤ → List ℕ → Turn) → Turn
slice_turn room m text more =
    let row = row_of (samples room) text in
    let behind = drop row.bytes text in
    cond (barred behind) (more row.values (drop 2 behind))
    (unread_turn m (slice_stopped room (length row.values) behind))

-- S3, which ends the line
unfoldable pub s3_turn : ℕ → Module → List ℤ → List ℤ → List ℕ → Turn
s3_turn c m v s1 text =
    let s3 = row_of (samples c) text in
    cond (ltb s3.bytes (length text)) (unread_turn m (slice_stopped c (length s3.values) (drop s3.bytes text)))
    (stepped_turn (block_of m v s1 s3.values))

-- S1 with its bar, and S3
abbrev pub s1_turn : ℕ → ℕ → Module → List ℤ → List ℕ → Turn
s1_turn b c m v text = slice_turn b m text (s3_turn c m v)

-- V with its bar, and the rest
abbrev pub with_samples : ℕ → ℕ → ℕ → Module → List ℕ → Turn
with_samples a b c m rest = slice_turn a m rest (s1_turn b c m)

-- ---- a line

abbrev pub word_turn : ℕ → ℕ → ℕ → Module → Word → List ℕ → Turn
word_turn a b c m word.Open rest = with_text m rest
word_turn a b c m word.Poll rest = with_packet m rest
word_turn a b c m word.Block rest = with_samples a b c m rest
word_turn a b c m word.Other rest = unread_turn m why.NoStep
word_turn a b c m word.Start rest = with_items m word.Start rest
word_turn a b c m word.Write rest = with_items m word.Write rest
word_turn a b c m word.Commit rest = with_items m word.Commit rest
word_turn a b c m word.Drop rest = with_items m word.Drop rest
word_turn a b c m word.Hold rest = with_items m word.Hold rest
word_turn a b c m word.Read rest = with_items m word.Read rest
word_turn a b c m word.Reset rest = with_items m word.Reset rest
word_turn a b c m word.Cards rest = with_items m word.Cards rest
word_turn a b c m word.Help rest = with_items m word.Help rest

-- a line of more than 131,071 bytes is not read; its first item, up to a space (32), is the step's word
unfoldable pub turn_of : ℕ → ℕ → ℕ → Module → List ℕ → Turn
turn_of a b c m line =
    let n = length_to 32 line in
    cond (ltb 131071 (length line)) (unread_turn m why.TooLong)
    (word_turn a b c m (word_of (take n line)) (drop n line))
