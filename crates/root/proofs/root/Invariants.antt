-- `root::root` meets its contract. The loop keeps r the root of the pairs of bits that were taken: `pair` of the 32, from the highest.
use Prim.Native.Nat.{◌-◌}
use Rattle.root.specs.Root.{Root}
use Rattle.root.proofs.Roots.{taken}
use Rattle.root.proofs.root.Given as goal

abbrev pub invariant-loop-pair : goal.invariant-loop-pair
invariant-loop-pair l = Root (taken l.x (32 - l.pair)) l.r
