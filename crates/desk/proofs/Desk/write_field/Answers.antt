-- `write_field` meets its contract.
use mathlib.Core.Path.{◌≡◌, sym, ◌∙◌}
use mathlib.Core.Bool.{true}
use native.Mathlib.Omega.{arith}
use mir.Facts.{to_z-of_z}
use mir.Syntax.{w32}
use mir.Val.{SFits}
use Rattle.std.proofs.lemmas.Bool.{not-true, not-false}
use Rattle.card.specs.Fields.{is_field, field_in_range}
use Rattle.card.proofs.Fields.{Placed}
use Rattle.desk.specs.Desks.{writing}
use Rattle.desk.proofs.Writes.{field_placed, written_fits}
use Rattle.desk.proofs.Desk.write_field.Goals as goal
use Rattle.desk.proofs.Desk.write_field.Goals.{After-field_in_range, Then-field_in_range}

numbered : (c : After-field_in_range) → is_field c.args.field ≡ true
unfolding is_field
numbered c = rw (to_z-of_z c.ranges.field) at c.if-not-numbered.false

-- what `field_in_range` answered, of the numbers themselves
asked : (c : After-field_in_range) → c.field_in_range.result ≡ field_in_range c.args.field c.args.value
asked c = rw (to_z-of_z c.ranges.field, to_z-of_z c.ranges.value) at c.field_in_range.ensures

here : (c : Then-field_in_range) → Placed c.args.field
here c = field_placed c.args.field (numbered c.before)

small : (c : Then-field_in_range) → SFits w32 c.args.value
small c = let a = c.args in written_fits a.field a.value (numbered c.before) (sym (asked c.before) ∙ c.if-field_in_range.true)

pub overflow_sub-field : goal.overflow_sub-field
overflow_sub-field c = rw (to_z-of_z c.ranges.field) (here c).fits

pub overflow_cast-field : goal.overflow_cast-field
overflow_cast-field c = rw (to_z-of_z c.ranges.field, to_z-of_z (here c).fits) ((here c).above, omega (arith, (here c).place, (here c).one))

pub put-requires : goal.put-requires
put-requires c = rw (to_z-of_z c.ranges.field, to_z-of_z (here c).fits) (omega (arith, (here c).place, (here c).one))

pub overflow_cast-value : goal.overflow_cast-value
overflow_cast-value c = rw (to_z-of_z c.ranges.value) (small c)

pub returns-then-not-self : goal.returns-then-not-self
unfolding writing
returns-then-not-self c = simp (not-true _ c.if-not-self.true)

pub returns-then-not-numbered : goal.returns-then-not-numbered
unfolding writing is_field
returns-then-not-numbered c = simp (not-false _ c.if-not-self.false, rw (to_z-of_z c.ranges.field) at c.if-not-numbered.true)

pub returns-then-field_in_range : goal.returns-then-field_in_range
unfolding writing
returns-then-field_in_range c =
    let t = (goal.at.returns-then-field_in_range c).Then-field_in_range in
    let put = rw (to_z-of_z c.ranges.field, to_z-of_z (here t).fits, (here t).place, to_z-of_z c.ranges.value, to_z-of_z (small t)) at c.put.ensures in
    simp (put, not-false _ c.if-not-self.false, numbered t.before, sym (asked t.before) ∙ c.if-field_in_range.true)

pub returns : goal.returns
unfolding writing
returns c =
    let a = (goal.at.returns c).After-field_in_range in
    simp (not-false _ c.if-not-self.false, numbered a, sym (asked a) ∙ c.if-field_in_range.false)
