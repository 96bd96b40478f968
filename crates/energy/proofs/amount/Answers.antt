-- `amount` meets its contract.
use native.Mathlib.Omega.{arith}
use mathlib.Core.Path.{◌≡◌}
use lib.IntN.{nat_abs}
use mir.Facts.{to_z-of_z}
use Rattle.number.proofs.Fits.{ranges, widen}
use Rattle.number.proofs.Fits.{product_room, size_most}
use Rattle.energy.proofs.amount.Goals as goal
use Rattle.energy.proofs.amount.Goals.{After-size}

pub overflow_cast-p : goal.overflow_cast-p
overflow_cast-p c = search ranges

sized : (c : After-size) → c.size.result ≡ nat_abs c.args.p
sized c =
    let h = c.ranges.p in
    rw (to_z-of_z h, to_z-of_z (widen h)) at c.size.ensures

pub overflow_mul-result : goal.overflow_mul-result
overflow_mul-result c =
    let h = c.ranges.p in
    record { fits = product_room c.size.result c.args.n (omega (arith, sized c, size_most h)) (omega arith) }

pub returns : goal.returns
returns c = rw (sized c)
