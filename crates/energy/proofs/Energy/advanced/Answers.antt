-- `advanced` meets its contract: neither sum nor product is made that could wrap.
use native.Mathlib.Omega.{arith}
use native.Mathlib.Nat.{mod-lt}
use mathlib.Core.Path.{sym}
use Prim.Native.Nat.{◌<◌}
use borrow.Author.Tests.{eq-eqb}
use Rattle.energy.specs.Energies.{advanced}
use Rattle.energy.proofs.Buckets.{without_carry, with_carry, advanced_is}
use Rattle.energy.proofs.Energy.advanced.Goals as goal
use Rattle.energy.proofs.Energy.advanced.Goals.{Else-bucket-eq0}

pub returns-then-bucket-eq0 : goal.returns-then-bucket-eq0
unfolding advanced
returns-then-bucket-eq0 c = rw (eq-eqb _ _ c.if-bucket-eq0.true)

some : (c : Else-bucket-eq0) → 0 < c.args.bucket
some c = omega (arith, c.if-bucket-eq0.false)

pub overflow_sub-bucket : goal.overflow_sub-bucket
overflow_sub-bucket c = let e = c.before.before.before in omega (arith, mod-lt e.args.amount (some (goal.at.overflow_sub-bucket c).Else-bucket-eq0))

pub returns-then-had-bucket : goal.returns-then-had-bucket
returns-then-had-bucket c =
    let e = c.before.before.before.before in
    let a = e.args in
    let h = without_carry a.self.remainder a.amount a.bucket (some (goal.at.returns-then-had-bucket c).Else-bucket-eq0) c.if-had-bucket.true in
    advanced_is a.self a.amount a.bucket _ _ e.if-bucket-eq0.false (omega (arith, h.0)) (sym h.1)

pub overflow_sub-result : goal.overflow_sub-result
overflow_sub-result c = let e = c.before.before.before.before in omega (arith, mod-lt e.args.amount (some (goal.at.overflow_sub-result c).Else-bucket-eq0))

pub returns : goal.returns
returns c =
    let e = c.before.before.before.before in
    let a = e.args in
    let h = with_carry a.self.remainder a.amount a.bucket (some (goal.at.returns c).Else-bucket-eq0) c.if-had-bucket.false in
    advanced_is a.self a.amount a.bucket _ _ e.if-bucket-eq0.false (omega (arith, h.0)) (sym h.1)
