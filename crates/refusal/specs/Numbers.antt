-- Each refusal of document 01, "Numbers that say no", has its number, from 1 to 21.
use Rattle.std.specs.Prelude.{ℕ, Option, cond, eqb, Option, Some, None, List, [], ◌∷◌}
use Rattle.refusal.specs.declared.Refusal.{Refusal}
use Rattle.refusal.specs.declared.Refusal.TheVariants as refusal

abbrev pub number_of : Refusal → ℕ
number_of refusal.NotSerial = 1
number_of refusal.Malformed = 2
number_of refusal.Withdrawn = 3
number_of refusal.NoCard = 4
number_of refusal.BlockSize = 5
number_of refusal.SampleRange = 6
number_of refusal.StartRange = 7
number_of refusal.NoPort = 8
number_of refusal.PortOpen = 9
number_of refusal.PortShut = 10
number_of refusal.NoField = 11
number_of refusal.ValueRange = 12
number_of refusal.FieldMissing = 13
number_of refusal.NoInterval = 14
number_of refusal.NothingHeld = 15
number_of refusal.NoRegister = 16
number_of refusal.SlotOff = 17
number_of refusal.NoCardYet = 18
number_of refusal.Present = 19
number_of refusal.Full = 20
number_of refusal.NoRoom = 21

-- all of them, in the document's order
abbrev pub refusals : List Refusal
refusals =
    refusal.NotSerial
    ∷ refusal.Malformed
    ∷ refusal.Withdrawn
    ∷ refusal.NoCard
    ∷ refusal.BlockSize
    ∷ refusal.SampleRange
    ∷ refusal.StartRange
    ∷ refusal.NoPort
    ∷ refusal.PortOpen
    ∷ refusal.PortShut
    ∷ refusal.NoField
    ∷ refusal.ValueRange
    ∷ refusal.FieldMissing
    ∷ refusal.NoInterval
    ∷ refusal.NothingHeld
    ∷ refusal.NoRegister
    ∷ refusal.SlotOff
    ∷ refusal.NoCardYet
    ∷ refusal.Present
    ∷ refusal.Full
    ∷ refusal.NoRoom
    ∷ []

-- the first of some refusals that has a number
abbrev pub with_number : ℕ → List Refusal → Option Refusal
with_number n [] = None
with_number n (r ∷ rs) = cond (eqb n (number_of r)) (Some r) (with_number n rs)

-- the refusal with a number; none has any but 1 to 21
abbrev pub numbered : ℕ → Option Refusal
numbered n = with_number n refusals
