-- Why a line is not read: reference/CONSOLE.md, "Lines that are not read".
use Rattle.std.specs.Prelude.{ℕ, cond, List, [], ◌∷◌, eqb}
use Prim.Native.String.{String}
use Rattle.console.specs.declared.words.Kind.{Kind}
use Rattle.console.specs.declared.words.Kind.TheVariants as kind
use Rattle.console.specs.declared.unread.Why.{Why}
use Rattle.console.specs.declared.unread.Why.TheVariants.{TooLong, NoStep, Missing, NotNumber, NotField, NotRegister, More, NoBar, TooMany, NotSample, NotRoom, NotByte, TooManyBytes}

unfoldable pub why_words : Why → String
why_words TooLong = "longer than 131,071 bytes"
why_words NoStep = "no such step"
why_words Missing = "an item missing"
why_words NotNumber = "not a 64-bit number"
why_words NotField = "neither a 64-bit number nor a field's name"
why_words NotRegister = "neither a 64-bit number nor a register's name"
why_words More = "more items than the step has"
why_words NoBar = "fewer than two bars"
why_words TooMany = "more than 8,192 samples in a slice"
why_words NotSample = "not a 32-bit number"
why_words NotRoom = "not a number from 0 to 255"
why_words NotByte = "not two hexadecimal digits"
why_words TooManyBytes = "more than 4,096 bytes"

-- an item that is not what must stand there
abbrev pub not_a : Kind → Why
not_a kind.Number = NotNumber
not_a kind.Field = NotField
not_a kind.Slot = NotRegister
not_a kind.Register = NotRegister
not_a kind.Sample = NotSample
not_a kind.Room = NotRoom
not_a kind.Byte = NotByte

-- where the step has items of these kinds yet, the line ends too early or has something else
unfoldable pub stopped_before : List Kind → List ℕ → Why
stopped_before ks [] = Missing
stopped_before [] (c ∷ cs) = More
stopped_before (k ∷ ks) (c ∷ cs) = not_a k

-- behind so many samples of a slice, which has room for some, the line ends or has something else
unfoldable pub slice_stopped : ℕ → ℕ → List ℕ → Why
slice_stopped room count [] = NoBar
slice_stopped room count (c ∷ cs) = cond (eqb count room) TooMany NotSample

-- behind so many bytes of a packet the line has another item
abbrev pub packet_stopped : ℕ → Why
packet_stopped count = cond (eqb count 4096) TooManyBytes NotByte
