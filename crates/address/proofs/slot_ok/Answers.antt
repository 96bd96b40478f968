-- `slot_ok` meets its contract.
use Rattle.std.proofs.Common.{cond, true, false, Some, None, Bool, ◌≡◌, refl, ℕ}
use Rattle.std.specs.Option.{is_some}
use Rattle.address.specs.Slots.{slot_ok}
use Rattle.address.proofs.slot_ok.Goals as goal

-- there is a row where its place lies in the table
in_table : (t : Bool) (k : ℕ) → is_some (cond t (Some k) None) ≡ t
in_table true k = refl
in_table false k = refl

pub returns-then-eq : goal.returns-then-eq
unfolding slot_ok
returns-then-eq c = rw (c.if-eq.true, ← c.if-eq.ensures)

pub returns-else-eq : goal.returns-else-eq
unfolding slot_ok
returns-else-eq c = rw (← c.if-eq.ensures, c.is_some.ensures, c.place_of.ensures, in_table)
