-- `packet::sum_right` meets its contract.
use mathlib.Core.Path.{sym}
use native.Mathlib.Omega.{arith}
use lib.Seq.{length-take-le}
use Rattle.packet.specs.Packets.{sum_right}
use Rattle.packet.proofs.sum_right.Goals as goal

pub slice_bounds-sum_of-end : goal.slice_bounds-sum_of-end
slice_bounds-sum_of-end c = sym (length-take-le _ c.args.p.now (omega arith))

pub returns : goal.returns
unfolding sum_right
returns c = rw (c.byte_at.ensures, c.sum_of.ensures)
