-- `card::field_in_range` meets its contract.
use mathlib.Core.Path.{sym}
use native.Mathlib.Omega.{arith}
use lib.IntN.{pos}
use mir.Facts.{to_z-of_z}
use Rattle.card.specs.Fields.{field_in_range, is_field}
use Rattle.card.proofs.Fields.{Placed, placed, low_field, high_field, ge_le_z}
use Rattle.card.proofs.field_in_range.Goals as goal
use Rattle.card.proofs.field_in_range.Goals.{Else-field-gt8}

-- `card::field_in_range` meets its contract.
pub returns-then-field-lt1 : goal.returns-then-field-lt1
returns-then-field-lt1 c = sym (low_field c.args.field c.args.value (rw (to_z-of_z c.ranges.field) at c.if-field-lt1.true))

pub returns-then-field-gt8 : goal.returns-then-field-gt8
returns-then-field-gt8 c =
    let s = c.before.before in
    sym (high_field s.args.field s.args.value (rw (to_z-of_z s.ranges.field) at c.if-field-gt8.true))

here : (c : Else-field-gt8) → Placed c.args.field
here c =
    let h = c.ranges.field in
    placed c.args.field (rw (to_z-of_z h) at c.if-field-lt1.false) (rw (to_z-of_z h) at c.if-field-gt8.false)

pub overflow_sub-field : goal.overflow_sub-field
overflow_sub-field c = rw (to_z-of_z c.ranges.field) (here c).fits

pub overflow_cast-field : goal.overflow_cast-field
overflow_cast-field c = rw (to_z-of_z c.ranges.field, to_z-of_z (here c).fits) ((here c).above, omega (arith, (here c).place, (here c).one))

pub fits_field-requires : goal.fits_field-requires
fits_field-requires c = rw (to_z-of_z c.ranges.field, to_z-of_z (here c).fits) (omega (arith, (here c).place, (here c).one))

pub returns : goal.returns
unfolding field_in_range is_field
returns c =
    let s = c.before.before.before in
    let h = s.ranges.field in
    let low = ge_le_z s.args.field (pos 1) (rw (to_z-of_z h) at c.if-field-lt1.false) in
    let high = ge_le_z (pos 8) s.args.field (rw (to_z-of_z h) at c.if-field-gt8.false) in
    simp (low, high) (rw (to_z-of_z h, to_z-of_z (here c.before).fits, (here c.before).place, to_z-of_z s.ranges.value) at c.fits_field.ensures)
