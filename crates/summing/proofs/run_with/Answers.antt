-- `run_with` meets its contract. The loop keeps the sums, and the corrected inputs before the next sample.
use Prim.Native.Nat.{ℕ, suc, ◌+◌, ◌-◌, ◌≤◌, ◌<◌}
use native.Mathlib.Nat.{not-suc-le-zero}
use native.Mathlib.Omega.{arith}
use mathlib.Core.Path.{◌≡◌, refl, sym, ap, ◌∙◌}
use borrow.Author.Rules.{rules}
use lib.IntN.{pos}
use lib.ListN.{get_or, length}
use mir.Syntax.{w32}
use mir.Val.{SFits}
use mir.Facts.{to_z-of_z}
use Rattle.number.proofs.Fits.{widen}
use Rattle.sample.specs.declared.Inputs.{Inputs}
use Rattle.sample.specs.Sums.{Sample, previous}
use Rattle.sample.proofs.Rooms.{spare_room, spare_at}
use Rattle.sample.proofs.Slices.{sample_at}
use Rattle.summing.specs.declared.Three.{Three}
use Rattle.summing.specs.declared.Tally.{Tally}
use Rattle.summing.specs.Inside.{both_of, probed, tally_of, three_of, Small, Within}
use Rattle.summing.proofs.Tallies.{small_of, tally_end}
use Rattle.summing.proofs.Probes.{probe_more, probe_end, both_in, three_within}
use Rattle.summing.proofs.Turns.{inputs, spare_next, wide, three_same, three_inputs, take_same, take_next, previous_next, seen_next}
use Rattle.summing.proofs.run_with.Goals as goal
use Rattle.summing.proofs.run_with.Goals.{After-correct_all-x, After-take-t, At-loop-k, In-loop-k}

pub overflow_cast-old1 : goal.overflow_cast-old1
overflow_cast-old1 c = let h : SFits w32 c.args.first.s1 = search rules in rw (to_z-of_z h) (widen h)

pub overflow_cast-old3 : goal.overflow_cast-old3
overflow_cast-old3 c = let h : SFits w32 c.args.first.s3 = search rules in rw (to_z-of_z h) (widen h)

pub tally_of-t-requires : goal.tally_of-t-requires
tally_of-t-requires c = (spare_room c.args.s0 _ c.requires.phase_bound.1).clips

pub loop-k-init : goal.loop-k-init
loop-k-init c =
    let h : SFits w32 c.args.first.s1 = search rules in
    let k : SFits w32 c.args.first.s3 = search rules in
    let n = length c.args.v.now in
    record {
      sums = c.args.s0;
      spare = spare_at c.args.s0 n (n - 0) (omega arith) c.requires.phase_bound.1;
      goes_on = refl;
      before1 = rw (to_z-of_z h, to_z-of_z (widen h)) (ap (λ (b : Inputs). b.s1) c.requires.first_value);
      before3 = rw (to_z-of_z k, to_z-of_z (widen k)) (ap (λ (b : Inputs). b.s3) c.requires.first_value);
      tally = c.tally_of-t.ensures;
      last = λ h. absurd (not-suc-le-zero h);
    }

pub bounds-v-k : goal.bounds-v-k
bounds-v-k c = omega (arith, c.loop-k-test.true)

pub bounds-s1-k : goal.bounds-s1-k
bounds-s1-k c = omega (arith, c.loop-k-test.true, c.requires.v_len)

pub bounds-s3-k : goal.bounds-s3-k
bounds-s3-k c = omega (arith, c.loop-k-test.true, c.requires.v_len)

-- there is a sample, and a block's length is small
turn : (c : In-loop-k) → (c.loop-k.k < length c.args.v.now) × (length c.args.v.now ≤ 4096)
turn c = (c.loop-k-test.true, omega (arith, c.requires.phase_bound.1.few))

-- the sample of this turn
abbrev sample_of : In-loop-k → Sample
sample_of c = let a = c.args in sample_at a.v.now a.s1.now a.s3.now c.loop-k.k

small : (c : At-loop-k) → Small c.loop-k.t
small c = let o = c.loop-k.invariant in rw o.tally (small_of o.sums (spare_room o.sums _ o.spare))

pub correct_all-x-requires : goal.correct_all-x-requires
correct_all-x-requires c = (small (goal.at.correct_all-x-requires c).At-loop-k).clips

-- what is corrected is the sample of this turn
three_is : (c : After-correct_all-x) →
    let a = c.args in
    c.correct_all-x.result ≡ three_of (tally_of c.loop-k.invariant.sums).clips a.p (sample_at a.v.now a.s1.now a.s3.now c.loop-k.k)
three_is c =
    let a = c.args in
    let v_fits : SFits w32 (get_or a.v.now c.loop-k.k (pos 0)) = search rules in
    let s1_fits : SFits w32 (get_or a.s1.now c.loop-k.k (pos 0)) = search rules in
    let s3_fits : SFits w32 (get_or a.s3.now c.loop-k.k (pos 0)) = search rules in
    c.correct_all-x.ensures
    ∙ three_same a.p (ap (λ (t : Tally). t.clips) c.loop-k.invariant.tally) (to_z-of_z v_fits) (to_z-of_z s1_fits) (to_z-of_z s3_fits)

three_in : (c : After-correct_all-x) → Within c.correct_all-x.result
three_in c = rw (three_is c) (three_within _ _ _)

pub take-t-requires : goal.take-t-requires
take-t-requires c =
    let q = goal.at.take-t-requires c in
    let o = c.loop-k.invariant in
    let old = both_in c.args.p (previous o.sums (sample_of q.In-loop-k).1) in (
      small q.At-loop-k,
      c.requires.phase_bound.0,
      three_in q.After-correct_all-x,
      rw o.before1 old.0,
      rw o.before3 old.1,
    )

pub loop-k-preserved : goal.loop-k-preserved
loop-k-preserved c =
    let q = goal.at.loop-k-preserved c in
    let p = c.args.p in
    let v = c.args.v.now in
    let s1 = c.args.s1.now in
    let s3 = c.args.s3.now in
    let k = c.loop-k.k in
    let o = c.loop-k.invariant in
    let s = o.sums in
    let x = sample_at v s1 s3 k in
    let here = turn q.In-loop-k in
    let three = three_is q.After-correct_all-x in
    let less : suc (length v - (k + 1)) ≡ length v - k = omega (arith, here) in
    let back : k + 1 - 1 ≡ k = omega arith in
    let same = three_inputs (tally_of s).clips p x in
    let was = ap (both_of p) (sym (previous_next p s x (inputs s1 s3 (k + 1)))) in
    let w = three_in q.After-correct_all-x in
    record {
      sums = probed p s x;
      spare = spare_next p s x (length v - (k + 1)) (spare_at s (length v - k) (suc (length v - (k + 1))) (sym less) o.spare);
      goes_on = sym (probe_more p s v s1 s3 k c.requires.v_len.0 c.requires.v_len.1 here.0) ∙ o.goes_on;
      before1 = to_z-of_z (wide w.s1) ∙ ap (λ (r : Three). r.s1) three ∙ same.0 ∙ ap (λ (b : Inputs). b.s1) was;
      before3 = to_z-of_z (wide w.s3) ∙ ap (λ (r : Three). r.s3) three ∙ same.1 ∙ ap (λ (b : Inputs). b.s3) was;
      tally = c.take-t.ensures ∙ take_same p o.tally three o.before1 o.before3 ∙ take_next p s x;
      last = λ h. ((seen_next p s x).0, (seen_next p s x).1 ∙ ap (inputs s1 s3) (sym back));
    }

pub overflow_sub-last : goal.overflow_sub-last
overflow_sub-last c = omega (arith, c.requires.phase_bound.2)

pub bounds-s1-last : goal.bounds-s1-last
bounds-s1-last c = omega (arith, c.requires.phase_bound.2, c.requires.v_len)

pub bounds-s3-last : goal.bounds-s3-last
bounds-s3-last c = omega (arith, c.requires.phase_bound.2, c.requires.v_len)

pub returns : goal.returns
returns c =
    let p = c.args.p in
    let v = c.args.v.now in
    let s1 = c.args.s1.now in
    let s3 = c.args.s3.now in
    let o = c.loop-k.invariant in
    let s = o.sums in
    let last1_fits : SFits w32 (get_or s1 (length v - 1) (pos 0)) = search rules in
    let last3_fits : SFits w32 (get_or s3 (length v - 1) (pos 0)) = search rules in
    let all : c.loop-k.k ≡ length v = omega (arith, c.loop-k.auto.k-end, c.loop-k-test.false) in
    let seen = o.last (omega (arith, all, c.requires.phase_bound.2)) in
    let raw_is : inputs s1 s3 (length v - 1) ≡ s.raw = ap (λ (n : ℕ). inputs s1 s3 (n - 1)) (sym all) ∙ sym seen.1 in
    c.sums_after.ensures
    ∙ rw (o.tally, to_z-of_z last1_fits, to_z-of_z last3_fits, raw_is) (tally_end s (spare_room s _ o.spare) seen.0)
    ∙ sym (probe_end p s v s1 s3 c.loop-k.k c.requires.v_len.0 c.requires.v_len.1 c.loop-k-test.false)
    ∙ o.goes_on
