-- Samples in the 24-bit range, tested one after another.
use Prim.Native.Nat.{ℕ, ◌+◌, ◌≤◌, ◌<◌}
use mathlib.Core.Path.{◌≡◌}
use mathlib.Core.Bool.{true, ◌&&◌}
use mathlib.Core.List.{List}
use native.Mathlib.Numerals.{add-one}
use lib.IntN.{ℤ, pos}
use lib.ListN.{length, get_or, drop, drop_of_length-le}
use lib.Seq.{drop-cons}
use Rattle.range.specs.Range.{in24}
use Rattle.sample.specs.Sample.{every24}

pub every_more : (a : List ℤ) (k : ℕ) → k < length a → every24 (drop k a) ≡ in24 (get_or a k (pos 0)) && every24 (drop (k + 1) a)
unfolding every24
every_more a k h = rw (add-one, drop-cons a k (pos 0) h)

pub every_end : (a : List ℤ) (k : ℕ) → length a ≤ k → every24 (drop k a) ≡ true
unfolding every24
every_end a k h = rw (drop_of_length-le a {i = k} h)
