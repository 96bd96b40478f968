-- `feed` meets its contract: each turn takes the samples of one interval.
use Prim.Native.Nat.{ℕ, ◌+◌, ◌-◌, ◌≤◌, ◌<◌, min}
use mathlib.Core.List.{List}
use lib.IntN.{ℤ}
use native.Mathlib.Omega.{arith}
use mathlib.Core.Path.{◌≡◌, refl, sym, ap, ◌∙◌}
use lib.ListN.{length, take, drop, length-take, length-drop}
use Rattle.sample.specs.Sums.{samples_in}
use Rattle.meter.proofs.Sound.{sound_of_lem, sound_yes}
use Rattle.meter.specs.Inside.{stretch_of}
use Rattle.sample.proofs.Tests.{same_length_lem, lengths_same}
use Rattle.sample.proofs.Slices.{samples_long, samples_part}
use Rattle.meter.proofs.Stretches.{fed_more, fed_end}
use Rattle.meter.proofs.Keeping.{stretch_sound}
use Rattle.meter.proofs.Meter.feed.Goals as goal
use Rattle.meter.proofs.Meter.feed.Goals.{After-reach-to, Start}

-- the slices are of one length
even : (c : Start) → (length c.args.v.now ≡ length c.args.s1.now) × (length c.args.v.now ≡ length c.args.s3.now)
even c = lengths_same c.args.v.now c.args.s1.now c.args.s3.now c.requires.1

-- and so are the same parts of them
part_long : (k a : ℕ) (x y : List ℤ) → length x ≡ length y → length (take k (drop a x)) ≡ length (take k (drop a y))
part_long k a x y e = simp (length-take, length-drop) (ap (λ (n : ℕ). min k (n - a)) e)

pub loop-at-init : goal.loop-at-init
loop-at-init c = (omega arith, sound_of_lem c.args.self c.requires.0, refl)

pub reach-to-requires : goal.reach-to-requires
reach-to-requires c = (sound_yes c.loop-at.self c.loop-at.invariant.1, c.loop-at-test.true)

-- the stretch is not empty, is within the slice and within the interval
record Span (c : After-reach-to) : Type 0 where
  some : c.loop-at.at < c.reach-to.result
  within : c.reach-to.result ≤ length c.args.v.now
  fits : c.loop-at.self.taken + (c.reach-to.result - c.loop-at.at) ≤ c.loop-at.self.work.settings.n

span : (c : After-reach-to) → Span c
span c =
    let h = c.loop-at.invariant.1 in
    let n = h.taken_most in
    let t = c.loop-at-test.true in
    let e = c.reach-to.ensures in
    record { some = omega arith; within = omega arith; fits = omega arith }

pub stretch-self-requires : goal.stretch-self-requires
stretch-self-requires c =
    let a = c.args in
    let at = c.loop-at.at in
    let n = c.reach-to.result - at in
    let s = span (goal.at.stretch-self-requires c).After-reach-to in
    let e = even (goal.at.stretch-self-requires c).Start in record {
      self_value = (
        sound_yes c.loop-at.self c.loop-at.invariant.1,
        same_length_lem _ _ _ (part_long n at a.v.now a.s1.now e.0) (part_long n at a.v.now a.s3.now e.1),
      );
      v_bound = simp (length-take, length-drop) (omega arith);
    }

pub slice_bounds-stretch-end-in-loop-at : goal.slice_bounds-stretch-end-in-loop-at
slice_bounds-stretch-end-in-loop-at c = omega (arith, span (goal.at.slice_bounds-stretch-end-in-loop-at c).After-reach-to, even (goal.at.slice_bounds-stretch-end-in-loop-at c).Start)

pub slice_bounds-stretch-end-in-loop-at-2 : goal.slice_bounds-stretch-end-in-loop-at-2
slice_bounds-stretch-end-in-loop-at-2 c = omega (arith, span (goal.at.slice_bounds-stretch-end-in-loop-at-2 c).After-reach-to, even (goal.at.slice_bounds-stretch-end-in-loop-at-2 c).Start)

pub loop-at-preserved : goal.loop-at-preserved
loop-at-preserved c =
    let a = c.args in
    let v = a.v.now in
    let s1 = a.s1.now in
    let s3 = a.s3.now in
    let m = c.loop-at.self in
    let at = c.loop-at.at in
    let to = c.reach-to.result in
    let s = span (goal.at.loop-at-preserved c).After-reach-to in
    let e = even (goal.at.loop-at-preserved c).Start in
    let l = samples_long v s1 s3 e.0 e.1 in
    let part = samples_part (to - at) at v s1 s3 in
    let is : c.stretch-self.result ≡ stretch_of m (take (to - at) (drop at (samples_in v s1 s3))) = c.stretch-self.ensures ∙ ap (stretch_of m) part in
    let fits : m.taken + length (take (to - at) (drop at (samples_in v s1 s3))) ≤ m.work.settings.n = simp (length-take, length-drop) (omega arith) in (
      omega (arith, s.within),
      rw is (stretch_sound m (take (to - at) (drop at (samples_in v s1 s3))) c.loop-at.invariant.1 fits),
      rw is (sym (fed_more m (samples_in v s1 s3) at to s.some (omega arith) s.fits) ∙ c.loop-at.invariant.2),
    )

pub returns : goal.returns
returns c =
    let a = c.args in
    let v = a.v.now in
    let s1 = a.s1.now in
    let s3 = a.s3.now in
    let e = even (goal.at.returns c).Start in
    sym (fed_end c.loop-at.self (samples_in v s1 s3) c.loop-at.at (omega (arith, samples_long v s1 s3 e.0 e.1))) ∙ c.loop-at.invariant.2
