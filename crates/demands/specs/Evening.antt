-- Polls in the evening of the day at a site (`Day.antt`), worked out by hand: of two registers and of one, one whose second read is refused, and one whose
-- reply does not fit. Port 1 holds interval 1 yet, and interval 3 closed last. `proofs/Evening.antt` computes them.
use Rattle.std.specs.Prelude.{ℕ, ◌≡◌, List, [], ◌∷◌, ◌++◌, replicate}
use Rattle.steps.specs.Answers.{OrRefusal, refused, accepted}
use Rattle.steps.specs.Port.{port1}
use Rattle.aberzhan.specs.declared.Module.{Module}
use Rattle.aberzhan.specs.Module.{Outcome, with_held}
use Rattle.calls.specs.Calls.{call_hold, call_read}
use Rattle.aberzhan.specs.Polling.{poll_of, poll_buffer}
use Rattle.calls.specs.Turns.{Turn, call, poll, calls_of}
use Rattle.demands.specs.Day.{panel, byte, evening}

-- the evening's module, but for the hold of port 1: that of interval 1, where WATT_A is 30 and PA_NEG_CNT 0
abbrev pub earlier : Module
earlier = with_held port1 evening.hold0 evening

-- WATT_A and PA_NEG_CNT
abbrev pub asks_two : List ℕ
asks_two = 0xAA ∷ 0x0B ∷ 0xA3 ∷ 0xE1 ∷ 0x00 ∷ 0xE3 ∷ 0xA3 ∷ 0xB6 ∷ 0x01 ∷ 0xE3 ∷ 0x59 ∷ []

-- -2,097,182 is 0xDFFFE2 in 24 bits, and 41,943 is 0x00A3D7: those of interval 3
abbrev pub tells_two : List ℕ
tells_two = 0xAA ∷ 0x09 ∷ 0xE2 ∷ 0xFF ∷ 0xDF ∷ 0xD7 ∷ 0xA3 ∷ 0x00 ∷ 0xED ∷ []

-- WATT_A alone
abbrev pub asks_one : List ℕ
asks_one = 0xAA ∷ 0x07 ∷ 0xA3 ∷ 0xE1 ∷ 0x00 ∷ 0xE3 ∷ 0x18 ∷ []

abbrev pub tells_one : List ℕ
tells_one = 0xAA ∷ 0x06 ∷ 0xE2 ∷ 0xFF ∷ 0xDF ∷ 0x70 ∷ []

-- WATT_A and MIN2, whose slot is off
abbrev pub asks_min2 : List ℕ
asks_min2 = 0xAA ∷ 0x0B ∷ 0xA3 ∷ 0xE1 ∷ 0x00 ∷ 0xE3 ∷ 0xA3 ∷ 0x56 ∷ 0x01 ∷ 0xE3 ∷ 0xF9 ∷ []

-- what a poll of the earlier module answers with so much room, and the module after it; and the bytes of the buffer
pub record Comes (packet : List ℕ) (room : ℕ) (r : Outcome ℕ) (left : List ℕ) : Type 0 where
  pub returns : poll_of earlier packet room ≡ r
  pub leaves : poll_buffer earlier packet (replicate room 7) ≡ left

abbrev pub polled : OrRefusal ℕ → Module → Outcome ℕ
polled answer z = record { answer = answer; after = z }

-- all of them, one after the other, with a read at port 1 behind them
abbrev pub turns : List Turn
turns =
    poll asks_min2 (replicate 3 7) ∷ poll asks_two (replicate 8 7) ∷ poll asks_two (replicate 11 7) ∷ poll asks_one (replicate 6 7)
    ∷ call (call_read panel (byte 0xE1)) ∷ []

pub record EveningIsSo : Type 0 where
  -- the bytes past a reply stay, and port 1 holds interval 3 then
  pub two : Comes asks_two 11 (polled (accepted 9) evening) (tells_two ++ (7 ∷ 7 ∷ []))
  pub one : Comes asks_one 6 (polled (accepted 6) evening) tells_one
  -- 0xB0 alone, and no hold
  pub refuses : Comes asks_min2 3 (polled (accepted 1) earlier) (0xB0 ∷ 7 ∷ 7 ∷ [])
  -- 9 bytes do not fit into 8
  pub too_long : Comes asks_two 8 (polled (refused 21) earlier) (replicate 8 7)
  pub counts : calls_of turns earlier ≡
      call_hold panel ∷ call_read panel (byte 0xE1) ∷ call_read panel (byte 0x1B6)
      ∷ call_hold panel ∷ call_read panel (byte 0xE1)
      ∷ call_read panel (byte 0xE1) ∷ []
