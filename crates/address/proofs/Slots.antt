-- Slots, tested one after another.
use Rattle.std.proofs.Common.{◌≡◌, refl, List, [], ◌∷◌}
use Rattle.std.specs.List.{list_all}
use Rattle.address.specs.declared.WordAddr.{WordAddr}
use Rattle.address.specs.Slots.{slot_ok, every_slot}

pub slots_all : (a : List WordAddr) → list_all slot_ok a ≡ every_slot a
unfolding every_slot
slots_all [] = refl
slots_all (w ∷ ws) = rw (slots_all ws)
