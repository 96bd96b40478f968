-- The sums of an interval have room: with one sample more they are those of one sample more, and never pass 64 bits.
use Prim.Native.Nat.{ℕ, suc, ◌+◌, ◌*◌, ◌^◌, ◌≤◌, ◌<◌}
use mathlib.Core.Path.{◌≡◌}
use mathlib.Core.Bool.{Bool, true, false}
use native.Mathlib.Nat.{mul-le-mul}
use native.Mathlib.Omega.{arith}
use lib.IntN.{ℤ, nat_abs, ◌+ℤ◌, ◌*ℤ◌}
use lib.Signed.{mag, nat_abs-le}
use mir.Syntax.{w64}
use mir.Val.{SFits}
use Rattle.number.proofs.Signed.{add_is, abs_is}
use Rattle.number.proofs.Fits.{within, Size, size_mul}
use Rattle.range.proofs.Ranges.{size24}
use Rattle.source.specs.declared.Multipliers.{Multipliers}
use Rattle.source.specs.Sources.{IA, IB, multipliers_of}
use Rattle.source.proofs.Blends.{blended_in}
use Rattle.sample.specs.declared.Inputs.{Inputs}
use Rattle.sample.specs.declared.Flow.{Flow}
use Rattle.sample.specs.declared.Clips.{Clips}
use Rattle.sample.specs.declared.Sums.{Sums}
use Rattle.number.specs.Sign.{square_of}
use Rattle.sample.specs.Sums.{Sample, joined, one_if, counted, previous, summed, added, added_all, emptied, no_flow}
use Rattle.sample.specs.Fields.{field}
use Rattle.sample.specs.Sample.{voltage, phased, voltage_clipped, input_clipped, source_current}
use Rattle.sample.proofs.Corrections.{corrected_in}
use mathlib.Core.List.{List, [], ◌∷◌}
use lib.ListN.{length}
use Rattle.sample.specs.Inside.{Flowing, Few, Room, Spare}
use Rattle.card.specs.declared.Card.{Card}

-- squares and products of numbers of the range
pub square24 : (z : ℤ) → mag z < 8388608 → nat_abs z * nat_abs z ≤ 70368744177664
square24 z h = mul-le-mul (nat_abs-le z h) (nat_abs-le z h)

product24 : (x y : ℤ) → mag x < 8388608 → mag y < 8388608 → Size (x *ℤ y) 70368744177664
product24 x y h k = size_mul (size24 x h) (size24 y k)

-- a sum whose size is bounded by k samples has room for one more in 64 bits
pub vi_fits : (z : ℤ) (k : ℕ) → k ≤ 4097 → nat_abs z ≤ k * 2 ^ 46 → SFits w64 z
vi_fits z k h l = within (omega (arith, abs_is z))

pub vi_more : (z x y : ℤ) (k : ℕ) → mag x < 8388608 → mag y < 8388608 → nat_abs z ≤ k * 2 ^ 46 → nat_abs (z +ℤ x *ℤ y) ≤ (k + 1) * 2 ^ 46
vi_more z x y k h l p =
    let q : Size (x *ℤ y) 70368744177664 = product24 x y h l in
    omega (arith, abs_is z, abs_is (z +ℤ x *ℤ y), add_is z (x *ℤ y))

pub square_more : (s : ℕ) (x : ℤ) (k : ℕ) → mag x < 8388608 → s ≤ k * 2 ^ 46 → (s + square_of x) ≤ (k + 1) * 2 ^ 46
square_more s x k h p = omega (arith, square24 x h)

pub flowing_more : (f : Flow) (v i : ℤ) (k : ℕ) → Flowing f k → mag v < 8388608 → mag i < 8388608 → Flowing (joined f v i) (k + 1)
unfolding joined
flowing_more f v i k h p q = record { ii = square_more f.ii i k q h.ii; vi = vi_more f.vi v i k p q h.vi }

pub one_most : (b : Bool) → one_if b ≤ 1
one_most true = omega arith
one_most false = omega arith

pub few_more : (c : Clips) (x y z : Bool) (k : ℕ) → Few c k → Few (counted c x y z) (k + 1)
unfolding counted
few_more c x y z k h = record { v = omega (arith, h.v, one_most x); s1 = omega (arith, h.s1, one_most y); s3 = omega (arith, h.s3, one_most z) }

-- the sums with one sample more
module _ (s : Sums) (v ia ib : ℤ) (x y z : Bool) (raw : Inputs) (p : mag v < 8388608) (q : mag ia < 8388608) (q' : mag ib < 8388608) where
  pub room_more : (k : ℕ) → Room s k → Room (summed s v ia ib x y z raw) (k + 1)
  unfolding summed
  room_more k h = record {
    vv = square_more s.vv v k p h.vv;
    a = flowing_more s.a v ia k h.a p q;
    b = flowing_more s.b v ib k h.b p q';
    clips = few_more s.clips x y z k h.clips;
  }

  pub spare_more : (k : ℕ) → Spare s (suc k) → Spare (summed s v ia ib x y z raw) k
  spare_more k h = record { had = h.had + 1; few = omega (arith, h.few); room = room_more h.had h.room }

flowing_less : (f : Flow) (j k : ℕ) → j ≤ k → Flowing f j → Flowing f k
flowing_less f j k l h = record { ii = omega (arith, h.ii); vi = omega (arith, h.vi) }

pub room_less : (s : Sums) (j k : ℕ) → j ≤ k → Room s j → Room s k
room_less s j k l h = record {
  vv = omega (arith, h.vv);
  a = flowing_less s.a j k l h.a;
  b = flowing_less s.b j k l h.b;
  clips = record { v = omega (arith, h.clips.v); s1 = omega (arith, h.clips.s1); s3 = omega (arith, h.clips.s3) };
}

pub spare_room : (s : Sums) (k : ℕ) → Spare s k → Room s 4096
spare_room s k h = room_less s h.had 4096 (omega (arith, h.few)) h.room

pub spare_at : (s : Sums) (j k : ℕ) → j ≡ k → Spare s j → Spare s k
spare_at s j k e h = rw e at h

-- ---- by a card and a configuration
voltage_in : (c : Card) (x : ℤ) → mag (voltage c x) < 8388608
unfolding voltage
voltage_in c x = corrected_in x (field c 1) (field c 3)

source_in : (c : Card) (m : Multipliers) (raw before : Inputs) → mag (source_current c m raw before) < 8388608
unfolding source_current
source_in c m raw before = blended_in m (phased c raw.s1 before.s1) (phased c raw.s3 before.s3)

module _ (c : Card) (g : ℕ) where
  one_room : (s : Sums) (x : Sample) (k : ℕ) → Room s k → Room (added c g s x) (k + 1)
  unfolding added
  one_room s x k r =
      let now = x.1 in
      let before = previous s now in
      let a = multipliers_of IA g in
      let b = multipliers_of IB g in
      room_more s (voltage c x.0) (source_current c a now before) (source_current c b now before)
      (voltage_clipped c x.0) (input_clipped c now.s1) (input_clipped c now.s3) now
      (voltage_in c x.0) (source_in c a now before) (source_in c b now before) k r

  pub all_room : (xs : List Sample) (s : Sums) (k : ℕ) → Room s k → Room (added_all c g s xs) (k + length xs)
  unfolding added_all
  all_room [] s k r = room_less s k (k + 0) (omega arith) r
  all_room (x ∷ xs) s k r =
      let more = all_room xs (added c g s x) (k + 1) (one_room s x k r) in
      room_less (added_all c g (added c g s x) xs) (k + 1 + length xs) (k + suc (length xs)) (omega arith) more

empty_flow : Flowing no_flow 0
empty_flow = record { ii = omega arith; vi = omega arith }

pub empty_room : (s : Sums) → Room (emptied s) 0
unfolding emptied
empty_room s = record {
  vv = omega arith;
  a = empty_flow;
  b = empty_flow;
  clips = record { v = omega arith; s1 = omega arith; s3 = omega arith };
}
