-- `number_in` reads a number of at most nine digits.
use Rattle.std.proofs.Common.{◌≤◌}
use Rattle.pace.proofs.number_in.Given as goal

abbrev pub invariant-loop-c : goal.invariant-loop-c
invariant-loop-c l = l.n ≤ 999999999
