-- `serial::holds_serial` meets its contract: the loop gathers one test for each of the twelve places.
use mathlib.Core.Path.{◌≡◌}
use mathlib.Core.Bool.{◌&&◌}
use native.Mathlib.Omega.{arith}
use lib.Dec.{leb}
use Rattle.serial.specs.Serials.{holds_serial}
use Rattle.serial.proofs.Every.{gather_none, gather_step}
use Rattle.serial.proofs.holds_serial.Goals as goal

pub loop-k-init : goal.loop-k-init
loop-k-init c = gather_none _ _

pub loop-k-preserved : goal.loop-k-preserved
loop-k-preserved c =
    let n = c.byte_at-n.result in
    rw (c.loop-k.invariant, c.place_ok-ok.ensures, c.byte_at.ensures) (gather_step (leb 1 n && leb n 12) _ c.loop-k.k)

pub returns : goal.returns
unfolding holds_serial
returns c =
    let e : c.loop-k.k ≡ 12 = omega arith in
    rw (← c.byte_at-n.ensures) (rw e at c.loop-k.invariant)
