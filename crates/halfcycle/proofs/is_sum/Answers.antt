-- `is_sum` meets its contract. So far every voltage was of the range, and what is added up, with the squares that are left, comes to all of them.
use Prim.Native.Nat.{ℕ, ◌+◌, ◌≤◌, ◌<◌}
use native.Mathlib.Omega.{arith}
use mathlib.Core.Path.{◌≡◌, sym, ap, ◌∙◌}
use mathlib.Core.Bool.{Bool, true, false, ◌&&◌}
use mathlib.Core.List.{List}
use borrow.Author.Rules.{rules}
use lib.Dec.{eqb}
use lib.IntN.{ℤ, pos}
use lib.ListN.{length, drop, get_or}
use mir.Syntax.{w32}
use mir.Val.{SFits}
use mir.Facts.{to_z-of_z}
use Rattle.number.specs.Sign.{square_of}
use Rattle.range.specs.Range.{in24}
use Rattle.range.proofs.Ranges.{in24_in, mag_in}
use Rattle.sample.specs.Sample.{every24}
use Rattle.sample.proofs.Ranges.{every_more, every_end}
use Rattle.halfcycle.specs.Passing.{squares}
use Rattle.sample.proofs.Rooms.{square24}
use Rattle.halfcycle.proofs.Windows.{squares_more, squares_end}
use Rattle.halfcycle.proofs.is_sum.Goals as goal
use Rattle.halfcycle.proofs.is_sum.Goals.{After-in_range, After-square-total}

-- the test, and what it says of the voltages from here on
within : (c : After-in_range) → c.in_range.result ≡ in24 (get_or c.args.volts.now c.loop-x.x-index (pos 0))
within c = let h : SFits w32 (get_or c.args.volts.now c.loop-x.x-index (pos 0)) = search rules in rw (to_z-of_z h) at c.in_range.ensures

tested : (c : After-in_range) →
    let volts = c.args.volts.now in
    every24 volts ≡ c.in_range.result && every24 (drop (c.loop-x.x-index + 1) volts)
tested c =
    let volts = c.args.volts.now in
    let k = c.loop-x.x-index in
    sym c.loop-x.invariant.0
    ∙ every_more volts k (omega (arith, c.requires, c.loop-x-test.true))
    ∙ ap (λ (b : Bool). b && every24 (drop (k + 1) volts)) (sym (within c))

pub returns-then-not-in_range : goal.returns-then-not-in_range
returns-then-not-in_range c =
    let volts = c.args.volts.now in
    let rest = every24 (drop (c.loop-x.x-index + 1) volts) in
    let e : every24 volts ≡ false = tested (goal.at.returns-then-not-in_range c).After-in_range ∙ ap (λ (b : Bool). b && rest) c.if-not-in_range.true in
    ap (λ (b : Bool). b && eqb c.args.sum (squares volts)) (sym e)

-- the square n of a voltage of the range, and what is left behind it
record Added (volts : List ℤ) (k total n : ℕ) : Type 0 where
  small : n ≤ 70368744177664
  sum_is : total + n + squares (drop (k + 1) volts) ≡ squares volts

added : (volts : List ℤ) (k total n : ℕ) → k < length volts → in24 (get_or volts k (pos 0)) ≡ true → n ≡ square_of (get_or volts k (pos 0)) →
    total + squares (drop k volts) ≡ squares volts → Added volts k total n
added volts k total n h i e s = record {
  small = rw e (square24 (get_or volts k (pos 0)) (mag_in _ (in24_in _ i)));
  sum_is = omega (arith, e, s, squares_more volts k h);
}

squared : (c : After-square-total) → c.square-total.result ≡ square_of (get_or c.args.volts.now c.loop-x.x-index (pos 0))
squared c = let h : SFits w32 (get_or c.args.volts.now c.loop-x.x-index (pos 0)) = search rules in c.square-total.ensures ∙ rw (to_z-of_z h)

pub overflow_add-total : goal.overflow_add-total
overflow_add-total c =
    let q = goal.at.overflow_add-total c in
    let a = added c.args.volts.now c.loop-x.x-index c.loop-x.total _ (omega (arith, c.requires, c.loop-x-test.true)) (sym (within q.After-in_range) ∙ c.if-not-in_range.false)
    (squared q.After-square-total) c.loop-x.invariant.1 in
    record { fits = omega (arith, a.small, c.loop-x.invariant.2) }

pub loop-x-preserved : goal.loop-x-preserved
loop-x-preserved c =
    let q = goal.at.loop-x-preserved c in
    let volts = c.args.volts.now in
    let k = c.loop-x.x-index in
    let a = added volts k c.loop-x.total _ (omega (arith, c.requires, c.loop-x-test.true)) (sym (within q.After-in_range) ∙ c.if-not-in_range.false)
    (squared q.After-square-total) c.loop-x.invariant.1 in (
      sym (tested q.After-in_range ∙ ap (λ (b : Bool). b && every24 (drop (k + 1) volts)) c.if-not-in_range.false),
      a.sum_is,
      omega (arith, a.small, c.loop-x.invariant.2),
    )

pub returns : goal.returns
returns c =
    let volts = c.args.volts.now in
    let all : length volts ≤ c.loop-x.x-index = omega (arith, c.requires, c.loop-x-test.false) in
    let every : every24 volts ≡ true = sym c.loop-x.invariant.0 ∙ every_end volts c.loop-x.x-index all in
    let total : c.loop-x.total ≡ squares volts = omega (arith, squares_end volts c.loop-x.x-index all, c.loop-x.invariant.1) in
    ap (eqb c.args.sum) total ∙ ap (λ (b : Bool). b && eqb c.args.sum (squares volts)) (sym every)
