-- `card::fields_at` meets its contract: the loop fills the eight places.
use mathlib.Core.Path.{◌≡◌}
use lib.ListN.{length, take}
use Rattle.serial.specs.Places.{tab}
use Rattle.card.specs.Cards.{field_at}
use Rattle.card.proofs.fields_at.Given as goal

abbrev pub invariant-loop-k : goal.invariant-loop-k
invariant-loop-k l = (length l.f ≡ 8) × (take l.k l.f ≡ tab (field_at l.c) l.k)
