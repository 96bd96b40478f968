-- `number::toward_zero` meets its contract.
use native.Mathlib.Nat.{div-le_self}
use mathlib.Core.Path.{◌≡◌}
use lib.IntN.{nat_abs}
use mir.Syntax.{w64}
use mir.Facts.{to_z-of_z}
use Rattle.number.specs.Rounding.{toward_zero}
use Rattle.number.proofs.Fits.{answer}
use Rattle.number.proofs.Divisions.{toward_none}
use Rattle.number.proofs.toward_zero.Goals as goal
use Rattle.number.proofs.toward_zero.Goals.{After-size}

-- `number::toward_zero` meets its contract.
pub returns-then-m-eq0 : goal.returns-then-m-eq0
returns-then-m-eq0 c = rw c.if-m-eq0.true (toward_none c.args.x)

sized : (c : After-size) → c.size.result ≡ nat_abs c.args.x
sized c = rw (to_z-of_z c.ranges.x) at c.size.ensures

pub with_sign-requires : goal.with_sign-requires
with_sign-requires c =
    rw (to_z-of_z c.ranges.x, sized c) (div-le_self (nat_abs c.args.x) c.args.m)

pub returns : goal.returns
unfolding toward_zero
returns c = answer w64 c.with_sign.type_inv (rw (to_z-of_z c.ranges.x, sized c.before) at c.with_sign.ensures)
