-- `byte_addr` meets its contract.
use mir.Syntax.{w64}
use mir.Facts.{to_z-of_z, Fits-nat_abs}
use Rattle.address.proofs.Places.{byte_at}
use Rattle.address.proofs.byte_addr.Goals as goal

pub returns : goal.returns
returns c = rw c.unwrap_or.ensures (byte_at c.args.x _ (rw (to_z-of_z c.ranges.x) at c.try_from.ensures) (Fits-nat_abs {w = w64} {w' = w64} tt c.ranges.x).fits)
