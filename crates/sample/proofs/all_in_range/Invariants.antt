-- `all_in_range` meets its contract. The loop gathers the tests: what was gathered, and the test of what is left, is the test of all.
use Rattle.std.proofs.Common.{◌≡◌, ◌&&◌, drop}
use Rattle.sample.specs.Sample.{every24}
use Rattle.sample.proofs.all_in_range.Given as goal

abbrev pub invariant-loop-x : goal.invariant-loop-x
invariant-loop-x l = (l.ok && every24 (drop l.x-index l.a)) ≡ every24 l.a
