-- A card's fields by the names that document 01 gives them.
use Rattle.std.specs.Prelude.{ℕ, ◌-◌, ℤ, pos, nat_abs, get_or}
use Rattle.card.specs.declared.Card.{Card}

-- field k, from 1
abbrev pub field : Card → ℕ → ℤ
field c k = get_or c.fields (k - 1) (pos 0)

abbrev pub voffs : Card → ℤ
voffs c = field c 1

abbrev pub ioffs : Card → ℤ
ioffs c = field c 2

abbrev pub vgain : Card → ℤ
vgain c = field c 3

abbrev pub igain : Card → ℤ
igain c = field c 4

-- these four are never below 0 in a card that was taken
abbrev pub phase : Card → ℕ
phase c = nat_abs (field c 5)

abbrev pub irmsoffs : Card → ℕ
irmsoffs c = nat_abs (field c 6)

abbrev pub squelch : Card → ℕ
squelch c = nat_abs (field c 7)

abbrev pub poffs : Card → ℕ
poffs c = nat_abs (field c 8)
