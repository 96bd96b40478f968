-- A tracking slot: 0 (off), or one of the first seven words in the register table.
use Rattle.std.specs.Prelude.{Bool, true, ◌&&◌, ◌||◌, List, [], ◌∷◌, eqb, ltb}
use Rattle.address.specs.declared.WordAddr.{WordAddr}
use Rattle.address.specs.Addresses.{place_of}

-- a slot that is off
abbrev pub off : WordAddr
off = record { 0 = 0 }

-- off, or a word that can be tracked
unfoldable pub slot_ok : WordAddr → Bool
slot_ok w = eqb w.0 0 || ltb (place_of w) 7

unfoldable pub every_slot : List WordAddr → Bool
every_slot [] = true
every_slot (w ∷ ws) = slot_ok w && every_slot ws
