-- `see` meets its contract.
use Prim.Native.Nat.{◌+◌, ◌-◌, ◌≤◌}
use native.Mathlib.Omega.{arith}
use mathlib.Core.Path.{sym, ap, subst, ◌∙◌}
use mathlib.Core.List.{List}
use lib.IntN.{ℤ}
use lib.ListN.{length, take, drop, length-take}
use Rattle.alarm.specs.Alarms.{Watching, both}
use Rattle.halfcycle.specs.Passing.{seen_all}
use Rattle.halfcycle.specs.Inside.{Good}
use Rattle.halfcycle.proofs.Parts.{good_all, seen_split, seen_count, seen_limits, uniform_all, uniform_none, lent_rest}
use Rattle.halfcycle.proofs.see.Goals as goal
use Rattle.halfcycle.proofs.see.Goals.{After-part-b}

pub part-requires : goal.part-requires
part-requires c = (c.requires, uniform_all c.args.a _ (omega (arith, c.if-left-eq0.true)))

pub part-requires-then-v-left : goal.part-requires-then-v-left
part-requires-then-v-left c = (c.requires, uniform_none c.args.a _ (omega (arith, c.if-v-left.true)))

pub part-b-requires : goal.part-b-requires
part-b-requires c =
    let a = c.args in
    let blank = a.a.limits.w - a.a.seen - 1 in
    (c.requires, uniform_none a.a (length (take blank a.v.now)) (omega (arith, length-take blank a.v.now, c.if-left-eq0.false)))

-- after the first part W less one were seen
first : (c : After-part-b) →
    let a = c.args in
    let b = c.part-b.result in
    Good b c.part-b.new.volts × (b.limits.w ≤ b.seen + 1)
first c =
    let a = c.args in
    let blank = a.a.limits.w - a.a.seen - 1 in
    let v = take blank a.v.now in
    let q = both a.a a.volts.now in
    let e = sym c.part-b.ensures in
    let few = length-take blank a.v.now in
    let most = c.if-v-left.false in
    let seen : (seen_all a.c q v).watch.limits.w ≤ (seen_all a.c q v).watch.seen + 1 =
    rw (seen_limits a.c v q, seen_count a.c v q c.requires.seen) (omega (arith, few, most)) in
    subst (λ (z : Watching). Good z.watch z.volts × (z.watch.limits.w ≤ z.watch.seen + 1)) e
    (good_all a.c v a.a a.volts.now c.requires, seen)

pub part-requires-2 : goal.part-requires-2
part-requires-2 c =
    let f = first (goal.at.part-requires-2 c).After-part-b in
    (f.0, uniform_all c.part-b.result _ f.1)

pub returns : goal.returns
returns c =
    let a = c.args in
    let blank = a.a.limits.w - a.a.seen - 1 in
    let v = a.v.now in
    let q = both a.a a.volts.now in
    c.part-2.ensures
    ∙ ap (λ (u : List ℤ). seen_all a.c (both c.part-b.result c.part-b.new.volts) u) (lent_rest blank v)
    ∙ ap (λ (q : Watching). seen_all a.c q (drop blank v)) c.part-b.ensures
    ∙ seen_split a.c blank v q
