-- `make_block` keeps within its three buffers.
use Rattle.std.proofs.Common.{◌≡◌, ◌≤◌, length}
use Rattle.pace.proofs.make_block.Given as goal

abbrev pub invariant-loop-k : goal.invariant-loop-k
invariant-loop-k l = (l.x ≤ 4294967295) × (length l.v ≡ length l.initial.v) × (length l.s1 ≡ length l.initial.s1) × (length l.s3 ≡ length l.initial.s3)
