-- `root::root` meets its contract. The loop keeps r the root of the pairs of bits that were taken: `pair` of the 32, from the highest.
use native.Mathlib.Omega.{arith}
use native.Mathlib.Nat.{mul-le-mul}
use mathlib.Core.Path.{◌≡◌}
use Prim.Native.Nat.{◌+◌, ◌*◌, ◌-◌, ◌/◌, ◌≤◌, ◌<◌}
use Rattle.root.specs.Root.{Root}
use Rattle.root.proofs.Roots.{taken, one_before, root_small, root_more, root_same, root_begins, root_ends}
use Rattle.root.proofs.root.Goals as goal
use Rattle.root.proofs.root.Goals.{In-loop-pair, then-odd-x, else-odd-x}

pub loop-pair-init : goal.loop-pair-init
loop-pair-init c = root_begins c.args.x (omega (arith, c.ranges.x))

-- what a turn starts from: r is the root of a quarter of the pairs that it takes
before : (c : In-loop-pair) → Root (taken c.args.x (31 - c.loop-pair.pair) / 4) c.loop-pair.r
before c =
    let e : 32 - c.loop-pair.pair - 1 ≡ 31 - c.loop-pair.pair = omega arith in
    rw e at (one_before c.args.x (32 - c.loop-pair.pair) c.loop-pair.r (omega arith) c.loop-pair.invariant)

small : (c : In-loop-pair) → c.loop-pair.r < 2147483648
small c = root_small c.args.x (31 - c.loop-pair.pair) c.loop-pair.r (omega (arith, c.ranges.x)) (before c)

pub overflow_mul-odd : goal.overflow_mul-odd
overflow_mul-odd c = omega (arith, small c)

pub overflow_add-odd : goal.overflow_add-odd
overflow_add-odd c = omega (arith, small c)

pub overflow_mul-odd-in-loop-pair : goal.overflow_mul-odd-in-loop-pair
overflow_mul-odd-in-loop-pair c =
    let h : 2 * c.loop-pair.r + 1 ≤ 4294967295 = omega (arith, small c) in
    omega (arith, mul-le-mul h h)

pub overflow_mul-r : goal.overflow_mul-r
overflow_mul-r c = omega (arith, small c.before)

pub loop-pair-preserved : goal.loop-pair-preserved
loop-pair-preserved c =
    let at = c.loop-pair in
    let x = taken c.args.x (31 - at.pair) in
    let h = before (goal.at.loop-pair-preserved c).In-loop-pair in
    let e : 32 - (at.pair + 1) ≡ 31 - at.pair = omega arith in
    rw e
    (elim c.if-odd-x.branch [
      | then-odd-x w ↦ rw w.r-is (root_more x at.r h w.if-odd-x.true)
      | else-odd-x w ↦ rw w.r-is (root_same x at.r h w.if-odd-x.false)
    ])

pub returns : goal.returns
returns c = root_ends c.args.x (32 - c.loop-pair.pair) c.loop-pair.r (omega arith) c.loop-pair.invariant
