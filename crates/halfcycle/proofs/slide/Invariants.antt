-- What the loop of `slide` keeps: what the window holds, and the voltages that are left, come to what all of them do.
use Rattle.std.proofs.Common.{◌≡◌, ◌-◌, ◌%◌, ◌≤◌, length, drop}
use Rattle.halfcycle.specs.Inside.{swing, swept_all, Kept}
use Rattle.halfcycle.proofs.slide.Given as goal

abbrev pub invariant-loop-k : goal.invariant-loop-k
invariant-loop-k l =
    (l.k ≤ length l.v - length l.v % 2) × (l.k % 2 ≡ 0) × Kept l.p.w l.t.at l.t.sum l.volts × (swept_all l.p (swing l.t l.volts) (drop l.k l.v) ≡ swept_all l.p (swing l.initial.t l.initial.volts) l.v)

abbrev pub decreases-loop-k : goal.decreases-loop-k
decreases-loop-k l = length l.v - l.k
