-- `card::fields_at` meets its contract: the loop fills the eight places.
use mathlib.Core.Path.{◌≡◌, refl}
use native.Mathlib.Omega.{arith}
use lib.ListN.{length-set, replicate}
use lib.IntN.{pos}
use mir.Syntax.{w32}
use mir.Facts.{to_z-of_z}
use Rattle.serial.proofs.Places.{fill_none, fill_more, fill_all}
use Rattle.card.specs.Cards.{field_at, fields_at}
use Rattle.card.proofs.fields_at.Goals as goal

pub loop-k-init : goal.loop-k-init
loop-k-init c = (refl, fill_none _ (replicate 8 (pos 0)))

pub loop-k-preserved : goal.loop-k-preserved
loop-k-preserved c =
    let l = c.loop-k in
    (simp length-set l.invariant.0, rw (to_z-of_z {w = w32} {z = c.field_at.result} (record { sfits = c.field_at.type_inv }), c.field_at.ensures) (fill_more (field_at c.args.c.now) l.f l.k (omega arith) l.invariant.1))

pub returns : goal.returns
unfolding fields_at
returns c =
    let e : c.loop-k.k ≡ 8 = omega arith in
    fill_all _ _ 8 c.loop-k.invariant.0 (rw e at c.loop-k.invariant.1)
