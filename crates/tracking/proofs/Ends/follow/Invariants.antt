-- `follow` meets its contract: each turn lays one slot over what it had.
use Prim.Native.Nat.{ℕ}
use mathlib.Core.Path.{◌≡◌}
use mathlib.Core.Bool.{Bool}
use mathlib.Core.List.{List}
use lib.ListN.{get_or}
use lib.IntN.{ℤ, pos}
use Rattle.address.specs.declared.WordAddr.{WordAddr}
use Rattle.address.specs.Slots.{off}
use Rattle.tracking.specs.Tracking.{tracked, lowest, highest, slots}
use Rattle.tracking.proofs.Slots.{over}
use Rattle.tracking.proofs.Ends.follow.Given as goal

abbrev pub lowAt : Bool → List ℤ → List WordAddr → List ℤ → ℕ → ℤ
lowAt first now track old k = lowest first (tracked (get_or track k off) now) (get_or old k (pos 0))

abbrev pub highAt : Bool → List ℤ → List WordAddr → List ℤ → ℕ → ℤ
highAt first now track old k = highest first (tracked (get_or track k off) now) (get_or old k (pos 0))

abbrev pub invariant-loop-k : goal.invariant-loop-k
invariant-loop-k l =
    (l.low ≡ over l.initial.low (slots (lowAt l.first l.seven l.track l.initial.low)) l.k) × (l.high ≡ over l.initial.high (slots (highAt l.first l.seven l.track l.initial.high)) l.k)
