-- `moved` meets its contract.
use Prim.Native.Nat.{ℕ, suc, ◌+◌, ◌-◌, min, max}
use native.Mathlib.Omega.{arith}
use native.Mathlib.Numerals.{add-one}
use mathlib.Core.Path.{◌≡◌, ◌∙◌}
use borrow.Author.Tests.{eq-eqb, ne_eqb}
use mir.Facts.{to_z-of_z}
use Rattle.number.specs.Sign.{square_of}
use Rattle.sample.proofs.Rooms.{square24}
use Rattle.alarm.specs.Alarms.{next_place, slid_sum}
use Rattle.halfcycle.specs.Inside.{moved_by}
use Rattle.halfcycle.proofs.moved.Goals as goal
use Rattle.halfcycle.proofs.moved.Goals.{After-square, After-square-2, Joined-next-w, Joined-sum-t, then-next-w, else-next-w, then-sum-t, else-sum-t}

newest : (c : After-square) → c.square.result ≡ square_of c.args.new
newest c = rw (to_z-of_z c.ranges.new) at c.square.ensures

pub overflow_add-sum : goal.overflow_add-sum
overflow_add-sum c =
    record { fits = omega (arith, newest (goal.at.overflow_add-sum c).After-square, square24 c.args.new c.requires.2, c.requires.1) }

oldest : (c : After-square-2) → c.square-2.result ≡ square_of c.args.old
oldest c = rw (to_z-of_z c.ranges.old) at c.square-2.ensures

pub overflow_sub-sum : goal.overflow_sub-sum
overflow_sub-sum c = omega (arith, oldest (goal.at.overflow_sub-sum c).After-square-2, c.requires.3)

-- the next place
place_first : (w at : ℕ) → at + 1 ≡ w → 0 ≡ next_place w at
unfolding next_place
place_first w at e = rw (eq-eqb (suc at) w (omega (arith, e)))

place_after : (w at : ℕ) → (at + 1 ≡ w → ⊥) → at + 1 ≡ next_place w at
unfolding next_place
place_after w at h = rw (add-one, ne_eqb (suc at) w (λ e. h (omega (arith, e))))

placed : (c : Joined-next-w) → let a = c.args in c.if-next-w.result ≡ next_place a.w a.t.at
placed c =
    let a = c.args in
    elim c.if-next-w.branch [
      | then-next-w w ↦ w.result-is ∙ place_first a.w a.t.at w.if-next-w.true
      | else-next-w w ↦ w.result-is ∙ place_after a.w a.t.at w.if-next-w.false
    ]

-- the sum, and the least that it was
summed : (c : After-square-2) → let a = c.args in (a.t.sum + c.square.result) - c.square-2.result ≡ slid_sum a.t.sum a.new a.old
unfolding slid_sum
summed c = let e : c.square.result ≡ square_of c.args.new = rw (to_z-of_z c.ranges.new) at c.square.ensures in rw (e, oldest c)

least_is : (c : Joined-sum-t) → c.if-sum-t.result ≡ min ((c.args.t.sum + c.square.result) - c.square-2.result) c.args.t.least
least_is c = elim c.if-sum-t.branch [ then-sum-t w ↦ omega arith | else-sum-t w ↦ omega arith ]

pub returns-then-sum-t-2 : goal.returns-then-sum-t-2
unfolding moved_by
returns-then-sum-t-2 c =
    let q = goal.at.returns-then-sum-t-2 c in
    let a = c.args in
    let m : max ((a.t.sum + c.square.result) - c.square-2.result) a.t.most ≡ a.t.most = omega (arith, c.if-sum-t-2.true) in
    rw (placed q.Joined-next-w, least_is q.Joined-sum-t, ← summed q.After-square-2) (rw m)

pub returns-else-sum-t-2 : goal.returns-else-sum-t-2
unfolding moved_by
returns-else-sum-t-2 c =
    let q = goal.at.returns-else-sum-t-2 c in
    let a = c.args in
    let sum = (a.t.sum + c.square.result) - c.square-2.result in
    let m : max sum a.t.most ≡ sum = omega (arith, c.if-sum-t-2.false) in
    rw (placed q.Joined-next-w, least_is q.Joined-sum-t, ← summed q.After-square-2) (rw m)
