-- `cardbytes::last_24` meets its contract.
use mathlib.Core.Path.{◌≡◌, sym}
use lib.IntN.{nat_abs}
use native.Mathlib.Omega.{arith}
use mir.Facts.{to_z-of_z}
use Rattle.cardbytes.proofs.Cards.{Below, below, above}
use Rattle.cardbytes.proofs.last_24.Goals as goal
use Rattle.cardbytes.proofs.last_24.Goals.{After-size-size, Then-v-lt0}

sized : (c : After-size-size) → c.size-size.result ≡ nat_abs c.args.v
sized c = rw (to_z-of_z c.ranges.v) at c.size-size.ensures

lower : (c : Then-v-lt0) → Below c.args.v
lower c = below c.args.v (rw (to_z-of_z c.ranges.v) at c.if-v-lt0.true)

pub overflow_sub-result : goal.overflow_sub-result
overflow_sub-result c = omega (arith, sized (goal.at.overflow_sub-result c).After-size-size, (lower c).some)

pub returns-then-v-lt0 : goal.returns-then-v-lt0
returns-then-v-lt0 c = (rw (sized (goal.at.returns-then-v-lt0 c).After-size-size) (sym (lower c).bits), omega arith)

pub returns-else-v-lt0 : goal.returns-else-v-lt0
returns-else-v-lt0 c =
    (rw (sized (goal.at.returns-else-v-lt0 c).After-size-size) (sym (above c.args.v (rw (to_z-of_z c.ranges.v) at c.if-v-lt0.false))), omega arith)
