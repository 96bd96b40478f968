-- `card::fields_ok` meets its contract: the loop gathers one test for each field.
use mathlib.Core.Path.{◌≡◌, sym}
use native.Mathlib.Omega.{arith}
use mir.Syntax.{w32}
use mir.Val.{SFits, to_z, of_z}
use Rattle.number.proofs.Fits.{widen}
use mir.Facts.{to_z-of_z}
use Rattle.serial.proofs.Every.{every_none, every_step}
use Rattle.card.specs.Cards.{fields_ok}
use Rattle.card.proofs.fields_ok.Goals as goal
use Rattle.card.proofs.fields_ok.Goals.{After-field_at}

pub loop-k-init : goal.loop-k-init
loop-k-init c = sym (every_none _)

small : (c : After-field_at) → SFits w32 c.field_at.result
small c = record { sfits = c.field_at.type_inv }

read : (c : After-field_at) → to_z w32 (of_z w32 c.field_at.result) ≡ c.field_at.result
read c = to_z-of_z (small c)

pub overflow_cast-field_at : goal.overflow_cast-field_at
overflow_cast-field_at c = rw (read c) (widen (small c))

pub loop-k-preserved : goal.loop-k-preserved
loop-k-preserved c =
    let l = c.loop-k in
    let e = rw (read (goal.at.loop-k-preserved c).After-field_at, to_z-of_z (widen (small (goal.at.loop-k-preserved c).After-field_at)), c.field_at.ensures) at c.fits_field-ok.ensures in
    rw (l.invariant, e) (sym (every_step _ _))

pub returns : goal.returns
unfolding fields_ok
returns c =
    let e : c.loop-k.k ≡ 8 = omega arith in
    rw e at c.loop-k.invariant
