-- `card::values_fit` meets its contract: the loop gathers one test for each value.
use mathlib.Core.Path.{◌≡◌, sym}
use native.Mathlib.Omega.{arith}
use lib.IntN.{pos}
use lib.ListN.{get_or}
use mir.Syntax.{w64}
use mir.Facts.{to_z-of_z}
use Rattle.serial.proofs.Every.{every_none, every_step}
use Rattle.card.specs.Fields.{values_fit}
use Rattle.card.proofs.values_fit.Goals as goal

pub loop-k-init : goal.loop-k-init
loop-k-init c = sym (every_none _)

pub loop-k-preserved : goal.loop-k-preserved
loop-k-preserved c =
    let l = c.loop-k in
    let e = rw (to_z-of_z {w = w64} {z = get_or _ _ (pos 0)} (record { sfits = c.fits_field-arg-1.given })) at c.fits_field-ok.ensures in
    rw (l.invariant, e) (sym (every_step _ _))

pub returns : goal.returns
unfolding values_fit
returns c =
    let e : c.loop-k.k ≡ 8 = omega arith in
    rw e at c.loop-k.invariant
