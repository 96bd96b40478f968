-- The reply to a packet, for whatever the registers give: `look` is what a read of a byte address answers.
use Rattle.std.specs.Prelude.{ℕ, ◌+◌, ◌*◌, Bool, true, false, cond, List, [], ◌∷◌, ◌++◌, eqb, ltb, ℤ, length}
use Rattle.steps.specs.Answers.{OrRefusal, refused, accepted, and_then}
use Rattle.card.specs.Cards.{fields_bytes}
use Rattle.packet.specs.declared.Ending.{Ending}
use Rattle.packet.specs.declared.Ending.TheVariants.{Whole, Fails, Unanswered}
use Rattle.packet.specs.Codes.{with_data, acknowledge, negative, too_long}
use Rattle.packet.specs.Packets.{checksum}
use Rattle.packet.specs.Commands.{asked_by}

-- no byte; one, a code; or the values of registers
pub data Reply : Type 0 where
  no_reply : Reply
  code : ℕ → Reply
  values : List ℤ → Reply

-- ---- which reply

-- what some registers give, in their order; refused if one of them is
abbrev pub joined : OrRefusal ℤ → OrRefusal (List ℤ) → OrRefusal (List ℤ)
joined (refused n) rest = refused n
joined (accepted v) rest = and_then rest (λ vs. v ∷ vs)

abbrev pub read_all : (ℕ → OrRefusal ℤ) → List ℕ → OrRefusal (List ℤ)
read_all look [] = accepted []
read_all look (a ∷ rest) = joined (look a) (read_all look rest)

-- behind the last command: more than 252 bytes of data, none, or some
unfoldable pub sending : List ℤ → Reply
sending vs =
    cond (ltb 252 (3 * length vs)) (code too_long)
    (cond (eqb (length vs) 0) (code acknowledge)
    (values vs))

-- the registers come before what stopped the packet, so a refused one decides
abbrev pub replied : OrRefusal (List ℤ) → Ending → Reply
replied (refused n) e = code negative
replied (accepted vs) Whole = sending vs
replied (accepted vs) (Fails c) = code c
replied (accepted vs) Unanswered = no_reply

unfoldable pub reply_to : (ℕ → OrRefusal ℤ) → List ℕ → Reply
reply_to look p = let a = asked_by p in replied (read_all look a.registers) a.ending

-- ---- its bytes

-- some bytes, and their checksum behind them
unfoldable pub with_sum : List ℕ → List ℕ
with_sum bytes = bytes ++ (checksum bytes ∷ [])

-- the code, the count of the whole reply, each register as three bytes, low byte first, as a card's fields are, and the checksum
unfoldable pub values_reply : List ℤ → List ℕ
values_reply vs = with_sum (with_data ∷ (3 * length vs + 3) ∷ fields_bytes vs)

unfoldable pub reply_bytes : Reply → List ℕ
reply_bytes no_reply = []
reply_bytes (code n) = n ∷ []
reply_bytes (values vs) = values_reply vs

-- it sends registers
abbrev pub sends : Reply → Bool
sends no_reply = false
sends (code n) = false
sends (values vs) = true
