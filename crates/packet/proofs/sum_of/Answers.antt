-- `packet::sum_of` meets its contract.
use Rattle.std.proofs.Common.{ℕ, ◌%◌, ap, ◌∙◌}
use native.Mathlib.Nat.{zero-add}
use Rattle.packet.proofs.Sums.{sum_turn, sum_done}
use Rattle.packet.proofs.sum_of.Goals as goal

pub loop-b-init : goal.loop-b-init
loop-b-init c = ap (λ (n : ℕ). n % 256) (zero-add _)

pub loop-b-preserved : goal.loop-b-preserved
loop-b-preserved c = sum_turn c.args.bytes.now c.loop-b.sum c.loop-b.b-index c.loop-b-test.true ∙ c.loop-b.invariant

pub returns : goal.returns
returns c = sum_done c.args.bytes.now c.loop-b.sum c.loop-b.b-index c.loop-b-test.false c.loop-b.auto.sum-fits.fits c.loop-b.invariant
