-- The lines that answer a turn, from reference/CONSOLE.md, "Answers". One space parts two items; a line feed, 10, ends a line.
use Rattle.std.specs.Prelude.{ℕ, ◌+◌, ◌/◌, ◌%◌, Bool, cond, List, [], ◌∷◌, ◌++◌, leb, ltb, eqb, ℤ, take}
use Prim.Native.String.{String}
use Rattle.serial.specs.Ascii.{ascii}
use Rattle.serial.specs.declared.Serial.{Serial}
use Rattle.sample.specs.declared.Clips.{Clips}
use Rattle.alarm.specs.declared.Alarms.{Alarms}
use Rattle.decimal.specs.Decimals.{decimal, signed_decimal}
use Rattle.refusal.specs.Words.{words_of}
use Rattle.steps.specs.Answers.{OrRefusal, refused, accepted}
use Rattle.console.specs.declared.unread.Why.{Why}
use Rattle.console.specs.declared.turns.Said.{Said}
use Rattle.console.specs.declared.turns.Said.TheVariants as said
use Rattle.console.specs.declared.turns.Reply.{Reply}
use Rattle.console.specs.Turns.{Turn}
use Rattle.console.specs.Unread.{why_words}

-- a line's end
abbrev pub end : List ℕ
end = 10 ∷ []

-- the digits of a serial; none of one whose length is beyond its twelve places, which no step makes
unfoldable pub digits_text : Serial → List ℕ
digits_text s = cond (leb s.len 12) (take s.len s.digits) []

-- the same where there may be no card: then `-`
unfoldable pub card_text : Serial → List ℕ
card_text s = cond (eqb s.len 0) (ascii "-") (digits_text s)

-- UNREAD: words
unfoldable pub unread_line : Why → List ℕ
unread_line why = ascii "UNREAD: " ++ ascii (why_words why) ++ end

-- REFUSED n: words
unfoldable pub refused_line : ℕ → List ℕ
refused_line n = ascii "REFUSED " ++ decimal n ++ ascii ": " ++ words_of n ++ end

-- ok
unfoldable pub ok_line : List ℕ
ok_line = ascii "ok" ++ end

-- ok VALUE
unfoldable pub value_line : ℤ → List ℕ
value_line v = ascii "ok " ++ signed_decimal v ++ end

-- a count, behind a space
unfoldable pub count_text : ℕ → List ℕ
count_text n = ascii " " ++ decimal n

-- how many samples of V, of S1 and of S3 were clipped
unfoldable pub clips_text : Clips → List ℕ
clips_text clips = count_text clips.v ++ count_text clips.s1 ++ count_text clips.s3

-- an alarm's word where it is set, else `-`
abbrev pub alarm_text : List ℕ → Bool → List ℕ
alarm_text word set = cond set word (ascii "-")

-- both alarms, a space before each
unfoldable pub alarms_text : Alarms → List ℕ
alarms_text alarms = ascii " " ++ alarm_text (ascii "SAG") alarms.sag ++ ascii " " ++ alarm_text (ascii "SURGE") alarms.surge

-- ok NUMBER SERIAL CLIPPED_V CLIPPED_S1 CLIPPED_S3 SAG SURGE
unfoldable pub held_line : ℕ → Serial → Clips → Alarms → List ℕ
held_line number serial clips alarms = ascii "ok " ++ decimal number ++ ascii " " ++ digits_text serial ++ clips_text clips ++ alarms_text alarms ++ end

-- a digit: `0` to `9`, and then `A` to `F`
unfoldable pub hex_digit : ℕ → ℕ
hex_digit d = cond (ltb d 10) (d + 48) (d + 55)

-- bytes, each as two hexadecimal digits behind a space
unfoldable pub bytes_text : List ℕ → List ℕ
bytes_text [] = []
bytes_text (b ∷ bs) = 32 ∷ hex_digit (b / 16) ∷ hex_digit (b % 16) ∷ bytes_text bs

-- ok BYTES
unfoldable pub reply_line : Reply → List ℕ
reply_line r = ascii "ok" ++ bytes_text (take r.length r.bytes) ++ end

-- ok FORCE WAITING
unfoldable pub cards_line : Serial → Serial → List ℕ
cards_line force waiting = ascii "ok " ++ card_text force ++ ascii " " ++ card_text waiting ++ end

-- the steps with their items
unfoldable pub help_lines : List String
help_lines =
    "# start N B SLOT SLOT SLOT SLOT SLOT SLOT [W [VSAG [VSURGE [STICKY [CONFIG]]]]]: N samples an interval, energy buckets of B, six registers to track or 0"
    ∷ "#   W samples in half a cycle, sag and surge levels or 0 (off), and the alarms that stay set: a mask as of reset; left out: 1 0 0 0"
    ∷ "#   CONFIG, 0 to 255, makes the sources IA and IB of S1 and S3: 0x96 has IA S1 and IB S3; left out: 0, by which each is half of -S1 - S3"
    ∷ "# open PORT SERIAL: begins a card; ports are 0 and 1"
    ∷ "# write PORT FIELD VALUE: VOFFS IOFFS VGAIN IGAIN PHASE IRMSOFFS SQUELCH POFFS, or 1 to 8"
    ∷ "# commit PORT: the card is whole and waits for the next interval"
    ∷ "# drop PORT: the card is forgotten"
    ∷ "# block V | S1 | S3: samples of the voltage and of the two current inputs, at most 4,096 a slice"
    ∷ "# reset MASK: clears alarms: 0x200000 sag, 0x200 surge, 0x200200 both"
    ∷ "# hold PORT: keeps the last closed interval; answers its number, its card's serial, how many of its samples of V, of S1 and of S3 were clipped, and both alarms as they are now"
    ∷ "# read PORT REGISTER: of what is held; a name (VA_RMS, WATT_A, WATT_B, PA_POS_CNT, MIN1 ..) or a byte address"
    ∷ "# poll ROOM BYTES: a packet of the serial line, its bytes as two hexadecimal digits each; answers the reply's bytes; ROOM bytes are lent for it"
    ∷ "# cards: the serials of the card in force and of the one that waits"
    ∷ "# help: these lines"
    ∷ "# A terminal cuts a pasted line at 4,095 bytes: send long blocks from a file, or as several blocks."
    ∷ "# Numbers are decimal, or hexadecimal behind 0x. One space parts two items. A line that begins with # is a comment."
    ∷ []

unfoldable pub lines_of : List String → List ℕ
lines_of [] = []
lines_of (s ∷ ss) = ascii s ++ end ++ lines_of ss

unfoldable pub help_text : List ℕ
help_text = lines_of help_lines

-- what is said
unfoldable pub said_text : Said → List ℕ
said_text (said.Unread why) = unread_line why
said_text said.Done = ok_line
said_text (said.Value x) = value_line x
said_text (said.Held h) = held_line h.number h.serial h.clips h.alarms
said_text (said.Polled reply) = reply_line reply
said_text (said.Cards c) = cards_line c.force c.waiting
said_text said.Help = help_text

-- or the refusal
unfoldable pub told_text : OrRefusal Said → List ℕ
told_text (refused n) = refused_line n
told_text (accepted s) = said_text s

-- the whole answer to a turn
abbrev pub answer_text : Turn → List ℕ
answer_text t = told_text t.said
