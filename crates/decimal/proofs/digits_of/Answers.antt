-- `decimal::digits_of` meets its contract.
use native.Mathlib.Omega.{arith}
use Rattle.decimal.proofs.Digits.{limit, at_most}
use Rattle.decimal.proofs.Places.{begins, low, high, goes_on, ends}
use Rattle.decimal.proofs.digits_of.Goals as goal

pub loop-rest-init : goal.loop-rest-init
unfolding limit
loop-rest-init c = begins _ (at_most 18 c.args.n c.requires)

pub overflow_sub-i : goal.overflow_sub-i
overflow_sub-i c = low _ _ _ _ c.loop-rest.invariant

pub bounds-bytes-i : goal.bounds-bytes-i
bounds-bytes-i c = omega (arith, low _ _ _ _ c.loop-rest.invariant, high _ _ _ _ c.loop-rest.invariant)

pub loop-rest-smaller : goal.loop-rest-smaller
loop-rest-smaller c = omega arith

pub loop-rest-preserved : goal.loop-rest-preserved
loop-rest-preserved c = goes_on _ _ _ _ c.loop-rest.invariant c.loop-rest-test.true

pub overflow_sub-i-2 : goal.overflow_sub-i-2
overflow_sub-i-2 c = low _ _ _ _ c.loop-rest.invariant

pub bounds-bytes-i-2 : goal.bounds-bytes-i-2
bounds-bytes-i-2 c = omega (arith, low _ _ _ _ c.loop-rest.invariant, high _ _ _ _ c.loop-rest.invariant)

pub returns : goal.returns
returns c = ends _ _ _ _ c.loop-rest.invariant c.loop-rest-test.false
