-- `take_part` goes from line feed to line feed: what it makes of the bytes is the talk that they are.
use Prim.Native.Nat.{◌-◌, ◌≤◌}
use mathlib.Core.Path.{◌≡◌}
use lib.ListN.{length, drop}
use Rattle.console.specs.Session.{Ready, talk_of, talked}
use Rattle.console.proofs.input.take_part.Given as goal

-- `take_part` goes from line feed to line feed: what it makes of the bytes is the talk that they are.
abbrev pub invariant-loop-at : goal.invariant-loop-at
invariant-loop-at l =
    Ready l.s l.line l.out l.v l.s1 l.s3 (length l.part - l.at) × (l.at ≤ length l.part) × (talked (talk_of l.s l.line l.out) (drop l.at l.part) ≡ talked (talk_of l.initial.s l.initial.line l.initial.out) l.part)
    × (length l.line ≡ length l.initial.line) × (length l.v ≡ length l.initial.v) × (length l.s1 ≡ length l.initial.s1) × (length l.s3 ≡ length l.initial.s3)
    × (length l.out ≡ length l.initial.out)

abbrev pub decreases-loop-at : goal.decreases-loop-at
decreases-loop-at l = length l.part - l.at
