-- What the loop of `run_with` keeps: the sums, and the corrected inputs before the next sample.
use Rattle.summing.proofs.Turns.{Of}
use Rattle.summing.proofs.run_with.Given as goal

abbrev pub invariant-loop-k : goal.invariant-loop-k
invariant-loop-k l = Of l.p l.v l.s1 l.s3 l.s0 l.old1 l.old3 l.t l.k
