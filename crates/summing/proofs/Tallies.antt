-- The loop's tally is that of the sums: one sample more of either, and the sums again at the end.
use Prim.Native.Nat.{◌+◌, ◌*◌, ◌/◌, ◌%◌}
use mathlib.Core.Path.{◌≡◌, sym}
use mathlib.Core.Bool.{Bool, true}
use native.Mathlib.Omega.{arith}
use lib.IntN.{ℤ}
use Rattle.sample.specs.declared.Inputs.{Inputs}
use Rattle.sample.specs.declared.Clips.{Clips}
use Rattle.sample.specs.declared.Sums.{Sums}
use Rattle.sample.specs.Sums.{counted, summed}
use Rattle.sample.specs.Inside.{Few, Room}
use Rattle.summing.specs.Inside.{packed, unpacked, tally_of, tallied, one_more, joined_to, Small}

packed_more : (k : Clips) (x y z : Bool) → one_more (packed k) x y z ≡ packed (counted k x y z)
unfolding one_more packed counted
packed_more k x y z = omega arith

pub tally_more : (s : Sums) (v ia ib : ℤ) (x y z : Bool) (raw : Inputs) → joined_to (tally_of s) v ia ib (one_more (tally_of s).clips x y z) ≡ tally_of (summed s v ia ib x y z raw)
unfolding joined_to tally_of summed
tally_more s v ia ib x y z raw = rw (packed_more s.clips x y z)

pub small_of : (s : Sums) → Room s 4096 → Small (tally_of s)
unfolding tally_of packed
small_of s h = record { vv = h.vv; a = h.a; b = h.b; clips = omega (arith, h.clips.v, h.clips.s1, h.clips.s3) }

unpacked_is : (k : Clips) → Few k 4096 → unpacked (packed k) ≡ k
unfolding unpacked packed
unpacked_is k h =
    let n = k.v + k.s1 * 65536 + k.s3 * 4294967296 in
    let v : n % 65536 ≡ k.v = omega (arith, h.v, h.s1) in
    let high : n / 65536 ≡ k.s1 + k.s3 * 65536 = omega (arith, h.v) in
    let s1 : (k.s1 + k.s3 * 65536) % 65536 ≡ k.s1 = omega (arith, h.s1) in
    let s3 : n / 4294967296 ≡ k.s3 = omega (arith, h.v, h.s1) in
    rw (v, high, s1, s3)

pub tally_end : (s : Sums) → Room s 4096 → s.seen ≡ true → tallied (tally_of s) s.raw ≡ s
unfolding tallied tally_of
tally_end s h e = rw (unpacked_is s.clips h.clips, sym e)
