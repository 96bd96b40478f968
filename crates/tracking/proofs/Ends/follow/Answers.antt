-- `follow` meets its contract: each turn lays one slot over what it had.
use Rattle.std.proofs.Common.{◌≡◌, ◌∙◌, arith, rules, length, get_or, pos}
use borrow.Author.Rules.{sfits_of}
use mir.Facts.{to_z-of_z}
use mir.Syntax.{w32}
use mir.Val.{SFits, to_z, of_z}
use Rattle.address.specs.Slots.{off}
use Rattle.tracking.specs.Tracking.{tracked, lowest, highest, slots, followed}
use Rattle.tracking.proofs.Slots.{over_all, over_at, slot_more}
use Rattle.tracking.proofs.Ends.follow.Invariants.{lowAt, highAt}
use Rattle.tracking.proofs.Ends.follow.Goals as goal
use Rattle.tracking.proofs.Ends.follow.Goals.{After-further, After-further-in-loop-k, After-tracked_of-x, At-loop-k}

long_low : (c : At-loop-k) → length c.args.self.low ≡ 6
long_low c = search rules

long_high : (c : At-loop-k) → length c.args.self.high ≡ 6
long_high c = search rules

-- the value tracked
value_is : (c : After-tracked_of-x) → to_z w32 (of_z w32 c.tracked_of-x.result) ≡ tracked (get_or c.args.track c.loop-k.k off) c.args.seven
value_is c =
    let v : SFits w32 c.tracked_of-x.result = sfits_of c.tracked_of-x.type_inv in
    rw (to_z-of_z v) c.tracked_of-x.ensures

low_is : (c : After-further) → let a = c.args in
    c.further.result ≡ lowAt a.first a.seven a.track a.self.low c.loop-k.k
unfolding lowest
low_is c =
    let a = c.args in
    let k = c.loop-k.k in
    let o : SFits w32 (get_or c.loop-k.low k (pos 0)) = search rules in
    let e : get_or c.loop-k.low k (pos 0) ≡ get_or a.self.low k (pos 0) = rw c.loop-k.invariant.0 (over_at a.self.low (slots (lowAt a.first a.seven a.track a.self.low)) k (pos 0) (omega arith)) in
    c.further.ensures ∙ rw (to_z-of_z o, value_is (goal.at.After-further c).After-tracked_of-x, e)

high_is : (c : After-further-in-loop-k) → let a = c.args in
    c.further-in-loop-k.result ≡ highAt a.first a.seven a.track a.self.high c.loop-k.k
unfolding highest
high_is c =
    let a = c.args in
    let k = c.loop-k.k in
    let o : SFits w32 (get_or c.loop-k.high k (pos 0)) = search rules in
    let e : get_or c.loop-k.high k (pos 0) ≡ get_or a.self.high k (pos 0) = rw c.loop-k.invariant.1 (over_at a.self.high (slots (highAt a.first a.seven a.track a.self.high)) k (pos 0) (omega arith)) in
    c.further-in-loop-k.ensures ∙ rw (to_z-of_z o, value_is (goal.at.After-further-in-loop-k c).After-tracked_of-x, e)

pub loop-k-preserved : goal.loop-k-preserved
loop-k-preserved c =
    let a = c.args in
    let k = c.loop-k.k in
    let l : SFits w32 c.further.result = sfits_of c.further.type_inv in
    let u : SFits w32 c.further-in-loop-k.result = sfits_of c.further-in-loop-k.type_inv in
    let at = goal.at.loop-k-preserved c in
    rw (to_z-of_z l, to_z-of_z u) (
      rw (low_is at.After-further, c.loop-k.invariant.0) (slot_more a.self.low (lowAt a.first a.seven a.track a.self.low) k (long_low at.At-loop-k) c.loop-k-test.true),
      rw (high_is c, c.loop-k.invariant.1) (slot_more a.self.high (highAt a.first a.seven a.track a.self.high) k (long_high at.At-loop-k) c.loop-k-test.true),
    )

pub returns : goal.returns
unfolding followed
returns c =
    let a = c.args in
    rw (
      c.loop-k.invariant.0,
      c.loop-k.invariant.1,
      over_all a.self.low (slots (lowAt a.first a.seven a.track a.self.low)) c.loop-k.k (omega arith) (omega (arith, long_low (goal.at.returns c).At-loop-k)),
      over_all a.self.high (slots (highAt a.first a.seven a.track a.self.high)) c.loop-k.k (omega arith) (omega (arith, long_high (goal.at.returns c).At-loop-k)),
    )
