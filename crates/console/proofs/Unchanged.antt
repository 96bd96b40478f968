-- A turn that says no keeps the module: step by step, and then line by line.
use Prim.Native.Nat.{ℕ}
use mathlib.Core.Path.{◌≡◌, refl, ap}
use mathlib.Core.Bool.{Bool, true, false, cond, ◌&&◌, false≢true}
use mathlib.Core.List.{List, [], ◌∷◌}
use mathlib.Core.Option.{Option, none, some}
use lib.Dec.{eqb, leb, ltb}
use lib.IntN.{ℤ}
use lib.ListN.{length, take, drop}
use Rattle.card.specs.declared.Card.{Card}
use Rattle.steps.specs.Answers.{OrRefusal, refused, accepted, and_then}
use Rattle.steps.specs.Port.{Port}
use Rattle.alarm.specs.declared.Watch.{Watch}
use Rattle.alarm.specs.Alarms.{clearing}
use Rattle.meter.specs.declared.Fed.{Fed}
use Rattle.meter.specs.Blocks.{volts_of, block_of as meterBlock}
use Rattle.port.specs.declared.Held.{Held}
use Rattle.port.specs.Holds.{copied}
use Rattle.packet.specs.Replies.{reply_bytes}
use Rattle.desk.specs.declared.Desk.{Desk}
use Rattle.desk.specs.Desks.{opening, writing, finished, dropping}
use Rattle.aberzhan.specs.declared.Module.{Module}
use Rattle.aberzhan.specs.Module.{desk_of, watch_of, port_at, at_port, refusal, at_desk, committing, holding, feeding, resetting, Outcome}
use Rattle.aberzhan.specs.Module.{open_of, write_of, commit_of, drop_of, hold_of, block_of, reset_of}
use Rattle.aberzhan.specs.Polling.{poll_reply, after_reply, poll_of}
use Rattle.console.specs.declared.words.Kind.TheVariants as kind
use Rattle.std.specs.Prelude.{Option as Maybe, Some, None}
use Rattle.console.specs.declared.items.Next.{Next}
use Rattle.console.specs.declared.words.Word.{Word}
use Rattle.console.specs.declared.words.Word.TheVariants as word
use Rattle.console.specs.declared.turns.Said.{Said}
use Rattle.console.specs.declared.turns.Said.TheVariants as said
use Rattle.console.specs.declared.unread.Why.TheVariants as why
use Rattle.console.specs.Texts.{begins_with, length_to}
use Rattle.console.specs.Words.{word_of, items_of, enough}
use Rattle.console.specs.Items.{next_of, row_of, samples, bytes, packet_of}
use Rattle.console.specs.Unread.{stopped_before, slice_stopped, packet_stopped}
use Rattle.console.specs.Turns.{Turn, unread_turn, answered_turn, stepped_turn, held_turn, told_reply, polled_turn, begun_by, started_turn, nth, items_turn, with_items, with_text}
use Rattle.console.specs.Turns.{packet_turn, behind_room, with_packet, barred, slice_turn, s3_turn, s1_turn, with_samples, word_turn, turn_of}
use Rattle.console.specs.Session.{line_turn}
use Rattle.console.specs.Unchanged.{ChangesNothing}

-- what is said says no
abbrev is_unread : Said → Bool
is_unread (said.Unread why) = true
is_unread said.Done = false
is_unread (said.Value x) = false
is_unread (said.Held h) = false
is_unread (said.Polled r) = false
is_unread (said.Cards c) = false
is_unread said.Help = false

abbrev says_no : OrRefusal Said → Bool
says_no (refused n) = true
says_no (accepted s) = is_unread s

abbrev Keeps : Module → Turn → Type 0
Keeps m t = says_no t.said ≡ true → t.after ≡ m

either : (m : Module) (b : Bool) (x y : Turn) → Keeps m x → Keeps m y → Keeps m (cond b x y)
either m true x y p q = p
either m false x y p q = q

-- ---- steps
at_port_lem : (m : Module) (o : Option Port) (act : Port → Outcome (Unit {0})) → ((p : Port) → Keeps m (stepped_turn (act p))) → Keeps m (stepped_turn (at_port o (refusal 8 m) act))
at_port_lem m none act h e = refl
at_port_lem m (some p) act h e = h p e

at_desk_lem : (m : Module) (p : Port) (r : OrRefusal Desk) → Keeps m (stepped_turn (at_desk m p r))
at_desk_lem m p (refused n) e = refl
at_desk_lem m p (accepted d) e = absurd (false≢true e)

commits : (m : Module) (p : Port) (r : OrRefusal Card) → Keeps m (stepped_turn (committing m p r))
commits m p (refused n) e = refl
commits m p (accepted c) e = absurd (false≢true e)

holds : (m : Module) (p : Port) (r : OrRefusal Held) → Keeps m (held_turn (holding m p r))
holds m p (refused n) e = refl
holds m p (accepted h) e = absurd (false≢true e)

open_kept : (m : Module) (port : ℤ) (text : List ℕ) → Keeps m (stepped_turn (open_of m port text))
unfolding open_of
open_kept m port text = at_port_lem m (port_at port) (λ p. at_desk m p (opening (desk_of m p) text)) (λ p. at_desk_lem m p (opening (desk_of m p) text))

write_kept : (m : Module) (port field v : ℤ) → Keeps m (stepped_turn (write_of m port field v))
unfolding write_of
write_kept m port field v = at_port_lem m (port_at port) (λ p. at_desk m p (writing (desk_of m p) field v)) (λ p. at_desk_lem m p (writing (desk_of m p) field v))

drop_kept : (m : Module) (port : ℤ) → Keeps m (stepped_turn (drop_of m port))
unfolding drop_of
drop_kept m port = at_port_lem m (port_at port) (λ p. at_desk m p (dropping (desk_of m p))) (λ p. at_desk_lem m p (dropping (desk_of m p)))

commit_kept : (m : Module) (port : ℤ) → Keeps m (stepped_turn (commit_of m port))
unfolding commit_of
commit_kept m port = at_port_lem m (port_at port) (λ p. committing m p (finished (desk_of m p))) (λ p. commits m p (finished (desk_of m p)))

hold_kept : (m : Module) (port : ℤ) → Keeps m (held_turn (hold_of m port))
unfolding hold_of
hold_kept m port = by (port_at port)
  where
    copy : OrRefusal Held
    copy = copied m.meter.work.any m.meter.work.last m.meter.work.settings.track

    by : (o : Option Port) → Keeps m (held_turn (at_port o (refusal 8 m) (λ p. holding m p copy)))
    by none e = refl
    by (some p) e = holds m p copy e

block_kept : (m : Module) (v s1 s3 : List ℤ) → Keeps m (stepped_turn (block_of m v s1 s3))
unfolding block_of
block_kept m v s1 s3 = by (meterBlock m.meter (watch_of m) v s1 s3)
  where
    by : (r : OrRefusal Fed) → Keeps m (stepped_turn (feeding m (volts_of m.meter (watch_of m) v s1 s3) r))
    by (refused n) e = refl
    by (accepted f) e = absurd (false≢true e)

reset_kept : (m : Module) (mask : ℤ) → Keeps m (stepped_turn (reset_of m mask))
unfolding reset_of
reset_kept m mask = by (clearing m.watch mask)
  where
    by : (r : OrRefusal Watch) → Keeps m (stepped_turn (resetting m r))
    by (refused n) e = refl
    by (accepted a) e = absurd (false≢true e)

start_kept : (m : Module) (s : Outcome (Unit {0})) → Keeps m (started_turn m s)
unfolding started_turn
start_kept m s = by s.answer
  where
    by : (a : OrRefusal (Unit {0})) → says_no (and_then a (λ u. said.Done)) ≡ true → begun_by a s.after m ≡ m
    by (refused n) e = refl
    by (accepted u) e = absurd (false≢true e)

poll_kept : (m : Module) (packet : List ℕ) (room : ℕ) → Keeps m (polled_turn m packet room)
unfolding poll_of
poll_kept m packet room = by (leb (length (reply_bytes (poll_reply m packet))) room)
  where
    outcome : Bool → Outcome ℕ
    outcome fits = let r = poll_reply m packet in cond fits (record { answer = accepted (length (reply_bytes r)); after = after_reply r m }) (refusal 21 m)

    by : (fits : Bool) → Keeps m (answered_turn (λ n. said.Polled (told_reply m packet room n)) (outcome fits))
    by true e = absurd (false≢true e)
    by false e = refl

-- ---- lines
items_kept : (m : Module) (w : Word) (x : List ℤ) → Keeps m (items_turn m w x)
items_kept m word.Start x = start_kept m _
items_kept m word.Write x = write_kept m _ _ _
items_kept m word.Commit x = commit_kept m _
items_kept m word.Drop x = drop_kept m _
items_kept m word.Hold x = hold_kept m _
items_kept m word.Read x = λ e. refl
items_kept m word.Reset x = reset_kept m _
items_kept m word.Cards x = λ e. refl
items_kept m word.Help x = λ e. refl
items_kept m word.Open x = λ e. refl
items_kept m word.Poll x = λ e. refl
items_kept m word.Block x = λ e. refl
items_kept m word.Other x = λ e. refl

with_items_kept : (m : Module) (w : Word) (rest : List ℕ) → Keeps m (with_items m w rest)
unfolding with_items
with_items_kept m w rest =
    let row = row_of (items_of w) rest in
    let count = length row.values in
    let behind = drop row.bytes rest in
    let stops = unread_turn m (stopped_before (drop count (items_of w)) behind) in
    either m (eqb (length behind) 0 && enough w count) (items_turn m w row.values) stops (items_kept m w row.values) (λ e. refl)

text_kept : (m : Module) (rest : List ℕ) → Keeps m (with_text m rest)
unfolding with_text
text_kept m rest =
    let row = row_of (items_of word.Open) rest in
    let behind = drop row.bytes rest in
    let steps = stepped_turn (open_of m (nth row.values 0) (drop 1 behind)) in
    let spaced = begins_with (32 ∷ []) behind in
    either m (ltb (length row.values) 1) (unread_turn m (stopped_before (items_of word.Open) behind)) (cond spaced steps (unread_turn m why.Missing)) (λ e. refl)
    (either m spaced steps (unread_turn m why.Missing) (open_kept m (nth row.values 0) (drop 1 behind)) (λ e. refl))

packet_kept : (m : Module) (room : ℕ) (text : List ℕ) → Keeps m (packet_turn m room text)
unfolding packet_turn
packet_kept m room text =
    let row = row_of bytes text in
    either m (ltb row.bytes (length text)) (unread_turn m (packet_stopped (length row.values))) (polled_turn m (packet_of row) room) (λ e. refl)
    (poll_kept m (packet_of row) room)

poll_line_kept : (m : Module) (rest : List ℕ) → Keeps m (with_packet m rest)
unfolding with_packet
poll_line_kept m rest = by (next_of kind.Room rest)
  where
    by : (n : Maybe Next) → Keeps m (behind_room m rest n)
    by (Some i) = packet_kept m _ (drop i.taken rest)
    by None = λ e. refl

s3_kept : (c : ℕ) (m : Module) (v s1 : List ℤ) (text : List ℕ) → Keeps m (s3_turn c m v s1 text)
unfolding s3_turn
s3_kept c m v s1 text =
    let s3 = row_of (samples c) text in
    let stops = unread_turn m (slice_stopped c (length s3.values) (drop s3.bytes text)) in
    either m (ltb s3.bytes (length text)) stops (stepped_turn (block_of m v s1 s3.values)) (λ e. refl) (block_kept m v s1 s3.values)

slice_kept : (room : ℕ) (m : Module) (text : List ℕ) (more : List ℤ → List ℕ → Turn) → ((x : List ℤ) (rest : List ℕ) → Keeps m (more x rest)) →
    Keeps m (slice_turn room m text more)
unfolding slice_turn
slice_kept room m text more h =
    let row = row_of (samples room) text in
    let behind = drop row.bytes text in
    let stops = unread_turn m (slice_stopped room (length row.values) behind) in
    either m (barred behind) (more row.values (drop 2 behind)) stops (h row.values (drop 2 behind)) (λ e. refl)

samples_kept : (a b c : ℕ) (m : Module) (rest : List ℕ) → Keeps m (with_samples a b c m rest)
samples_kept a b c m rest = slice_kept a m rest (s1_turn b c m) (λ v text. slice_kept b m text (s3_turn c m v) (λ s1 last. s3_kept c m v s1 last))

word_kept : (a b c : ℕ) (m : Module) (w : Word) (rest : List ℕ) → Keeps m (word_turn a b c m w rest)
word_kept a b c m word.Open rest = text_kept m rest
word_kept a b c m word.Poll rest = poll_line_kept m rest
word_kept a b c m word.Block rest = samples_kept a b c m rest
word_kept a b c m word.Other rest = λ e. refl
word_kept a b c m word.Start rest = with_items_kept m word.Start rest
word_kept a b c m word.Write rest = with_items_kept m word.Write rest
word_kept a b c m word.Commit rest = with_items_kept m word.Commit rest
word_kept a b c m word.Drop rest = with_items_kept m word.Drop rest
word_kept a b c m word.Hold rest = with_items_kept m word.Hold rest
word_kept a b c m word.Read rest = with_items_kept m word.Read rest
word_kept a b c m word.Reset rest = with_items_kept m word.Reset rest
word_kept a b c m word.Cards rest = with_items_kept m word.Cards rest
word_kept a b c m word.Help rest = with_items_kept m word.Help rest

line_kept : (m : Module) (line : List ℕ) → Keeps m (line_turn m line)
unfolding turn_of
line_kept m line =
    let n = length_to 32 line in
    either m (ltb 131071 (length line)) (unread_turn m why.TooLong) (word_turn 8192 8192 8192 m (word_of (take n line)) (drop n line)) (λ e. refl)
    (word_kept 8192 8192 8192 m (word_of (take n line)) (drop n line))

pub changes_nothing : ChangesNothing
changes_nothing = record {
  unread = λ m line why e. line_kept m line (ap says_no e);
  refused = λ m line n e. line_kept m line (ap says_no e);
}
