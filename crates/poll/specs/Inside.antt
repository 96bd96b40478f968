-- How the code gathers the registers of a packet before it replies. No public contract rests on it.
use Rattle.std.specs.Prelude.{ℕ, ◌+◌, Result, Ok, Err, cond, List, [], ◌∷◌, eqb, ltb, ℤ, pos, set, take, replicate}
use Rattle.steps.specs.Answers.{OrRefusal, refused, accepted}
use Rattle.packet.specs.declared.Device.{Device}
use Rattle.packet.specs.declared.Command.{Command}
use Rattle.packet.specs.declared.Command.TheVariants.{Goes, Reads, Stops}
use Rattle.packet.specs.declared.Ending.{Ending}
use Rattle.packet.specs.declared.Ending.TheVariants.{Whole, Fails, Unanswered}
use Rattle.packet.specs.Codes.{acknowledge, negative, too_long}
use Rattle.packet.specs.Commands.{Asked, registers_from}
use Rattle.packet.specs.Replies.{Reply, no_reply, code, values}
use Rattle.poll.specs.declared.Gathered.{Gathered}
use Rattle.poll.specs.declared.Walked.{Walked}

-- no register yet
abbrev pub none_gathered : Gathered
none_gathered = record { count = 0; values = replicate 84 (pos 0) }

-- one more; 85 stands for all that are too many for a reply
unfoldable pub keeping : Gathered → ℤ → Gathered
keeping g v =
    cond (ltb g.count 84) (record { count = g.count + 1; values = set g.values g.count v })
    (record { count = 85; values = g.values })

abbrev pub taken_if : OrRefusal ℤ → Gathered → (Gathered → Result Gathered Ending) → Result Gathered Ending
taken_if (refused n) g rest = Err (Fails negative)
taken_if (accepted v) g rest = rest (keeping g v)

-- some registers; a refused one is a negative acknowledge
unfoldable pub read_into : (ℕ → OrRefusal ℤ) → List ℕ → Gathered → Result Gathered Ending
read_into look [] g = Ok g
read_into look (a ∷ rest) g = taken_if (look a) g (read_into look rest)

-- what a command leaves for the next, which finds this device
abbrev pub left_for : Device → Result Gathered Ending → Result Walked Ending
left_for next (Ok g) = Ok (record { device = next; gathered = g })
left_for next (Err e) = Err e

-- what a command comes to
unfoldable pub walked : (ℕ → OrRefusal ℤ) → Device → Gathered → Command → Result Walked Ending
walked look d g (Goes next) = Ok (record { device = next; gathered = g })
walked look d g (Reads n next) = left_for next (read_into look (registers_from d.pointer n) g)
walked look d g (Stops e) = Err e

abbrev pub ended_by : Result Gathered Ending → Ending → Result Gathered Ending
ended_by (Err e) x = Err e
ended_by (Ok g) Whole = Ok g
ended_by (Ok g) (Fails c) = Err (Fails c)
ended_by (Ok g) Unanswered = Err Unanswered

-- all that a packet asks for
unfoldable pub gathers : (ℕ → OrRefusal ℤ) → Gathered → Asked → Result Gathered Ending
gathers look g a = ended_by (read_into look a.registers g) a.ending

-- the reply to what was gathered
unfoldable pub sending_of : Gathered → Reply
sending_of g =
    cond (ltb 84 g.count) (code too_long)
    (cond (eqb g.count 0) (code acknowledge)
    (values (take g.count g.values)))

abbrev pub ending_reply : Ending → Reply
ending_reply Whole = no_reply
ending_reply (Fails c) = code c
ending_reply Unanswered = no_reply

abbrev pub gathered_reply : Result Gathered Ending → Reply
gathered_reply (Ok g) = sending_of g
gathered_reply (Err e) = ending_reply e
