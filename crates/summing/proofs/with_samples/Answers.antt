-- `with_samples` meets its contract.
use Rattle.sample.proofs.Tests.{both_of, phased_of, room_of, few_is, lengths_same, joins, stays_unequal, stays_long, stays_by}
use Rattle.sample.specs.Sums.{of_at_most, phase_in_range, same_length}
use native.Mathlib.Omega.{arith}
use borrow.Author.Tests.{leb-true, lt-leb}
use lib.ListN.{length}
use lib.Dec.{leb}
use mathlib.Core.Bool.{true, ◌&&◌}
use mathlib.Core.Path.{◌≡◌, refl, sym, ap₂, ◌∙◌}
use Rattle.card.specs.declared.Card.{Card}
use Rattle.sample.specs.declared.Sums.{Sums}
use Prim.Native.Nat.{ℕ, ◌+◌, ◌-◌, ◌≤◌}
use Rattle.summing.proofs.with_samples.Goals as goal
use Rattle.summing.proofs.with_samples.Goals.{After-phase_in_range, Then-v-s1}

-- the code's test is that of the definition, for slices of one length
tested : (c : After-phase_in_range) →
    let a = c.args in
    let l = length a.v.now in
    leb a.n (4096 - l) && c.of_at_most.result && c.phase_in_range.result ≡ leb (a.n + l) 4096 && of_at_most a.n a.s && phase_in_range a.c
tested c =
    let a = c.args in
    ap₂ ◌&&◌ (ap₂ ◌&&◌ (few_is a.n (length a.v.now) c.if-v-le4096.true) c.of_at_most.ensures) c.phase_in_range.ensures

record Roomy (n : ℕ) (s : Sums) (c : Card) (l : ℕ) : Type 0 where
  few : n + l ≤ 4096
  sums : of_at_most n s ≡ true
  phase : phase_in_range c ≡ true

roomy : (n : ℕ) (s : Sums) (c : Card) (l : ℕ) → leb (n + l) 4096 && of_at_most n s && phase_in_range c ≡ true → Roomy n s c l
roomy n s c l e =
    let all : _ = both_of _ _ e in
    let two : _ = both_of _ _ all.0 in
    record { few = leb-true _ _ two.0; sums = two.1; phase = all.1 }

-- the code's test of the lengths is the definition's
same_is : (c : Then-v-s1) → let a = c.args in same_length a.v.now a.s1.now a.s3.now ≡ true
unfolding same_length
same_is c = c.if-v-s1.true

pub run-requires : goal.run-requires
run-requires c = let a = c.args in let r = roomy a.n a.s a.c (length a.v.now) (sym (tested (goal.at.run-requires c).After-phase_in_range) ∙ c.if-n-v.true) in let e = lengths_same a.v.now a.s1.now a.s3.now (same_is (goal.at.run-requires c).Then-v-s1) in (phased_of a.c r.phase, record { had = a.n; few = r.few; room = (room_of a.n a.s r.sums).1 }, e.0, e.1)

pub returns-then-n-v : goal.returns-then-n-v
returns-then-n-v c = let a = c.args in let r = roomy a.n a.s a.c (length a.v.now) (sym (tested (goal.at.returns-then-n-v c).After-phase_in_range) ∙ c.if-n-v.true) in c.run.ensures ∙ sym (joins a.n a.c a.config a.s a.v.now a.s1.now a.s3.now (same_is (goal.at.returns-then-n-v c).Then-v-s1) r.few r.sums r.phase)

pub returns-else-n-v : goal.returns-else-n-v
returns-else-n-v c = let a = c.args in sym (stays_by a.n a.c a.config a.s a.v.now a.s1.now a.s3.now (leb (a.n + length a.v.now) 4096) refl (sym (tested (goal.at.returns-else-n-v c).After-phase_in_range) ∙ c.if-n-v.false))

pub returns-else-v-le4096 : goal.returns-else-v-le4096
returns-else-v-le4096 c = let a = c.args in let long = c.if-v-le4096.false in sym (stays_long a.n a.c a.config a.s a.v.now a.s1.now a.s3.now (lt-leb (a.n + length a.v.now) 4096 (omega arith)))

pub returns-else-v-s1 : goal.returns-else-v-s1
unfolding same_length
returns-else-v-s1 c = let a = c.args in sym (stays_unequal a.n a.c a.config a.s a.v.now a.s1.now a.s3.now c.if-v-s1.false)
