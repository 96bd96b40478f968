-- What the loop of `is_sum` keeps: so far every voltage was of the range, and what is added up, with the squares that are left, comes to all of them.
use Rattle.std.proofs.Common.{◌≡◌, ◌+◌, ◌*◌, ◌^◌, ◌≤◌, drop}
use Rattle.sample.specs.Sample.{every24}
use Rattle.halfcycle.specs.Passing.{squares}
use Rattle.halfcycle.proofs.is_sum.Given as goal

abbrev pub invariant-loop-x : goal.invariant-loop-x
invariant-loop-x l =
    (every24 (drop l.x-index l.volts) ≡ every24 l.volts) × (l.total + squares (drop l.x-index l.volts) ≡ squares l.volts) × (l.total ≤ l.x-index * 2 ^ 46)
