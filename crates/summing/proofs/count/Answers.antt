-- `count` meets its contract.
use Prim.Native.Nat.{◌≤◌}
use native.Mathlib.Omega.{arith}
use mathlib.Core.Path.{◌≡◌, refl}
use mathlib.Core.Bool.{Bool, true, false}
use mir.Val.{bool_byte}
use Rattle.sample.specs.Sums.{one_if}
use Rattle.summing.specs.Inside.{one_more}
use Rattle.summing.proofs.count.Goals as goal

-- a test as a number
byte_is : (b : Bool) → bool_byte b ≡ one_if b
byte_is true = refl
byte_is false = refl

byte_most : (b : Bool) → bool_byte b ≤ 1
byte_most true = omega arith
byte_most false = omega arith

pub overflow_add-result : goal.overflow_add-result
overflow_add-result c = record { fits = omega (arith, c.requires, byte_most c.args.v) }

pub overflow_mul-result : goal.overflow_mul-result
overflow_mul-result c = record { fits = omega (arith, byte_most c.args.s1) }

pub overflow_add-result-2 : goal.overflow_add-result-2
overflow_add-result-2 c = record { fits = omega (arith, c.requires, byte_most c.args.v, byte_most c.args.s1) }

pub overflow_mul-result-2 : goal.overflow_mul-result-2
overflow_mul-result-2 c = record { fits = omega (arith, byte_most c.args.s3) }

pub overflow_add-result-3 : goal.overflow_add-result-3
overflow_add-result-3 c = record { fits = omega (arith, c.requires, byte_most c.args.v, byte_most c.args.s1, byte_most c.args.s3) }

pub returns : goal.returns
unfolding one_more
returns c = rw (byte_is c.args.v, byte_is c.args.s1, byte_is c.args.s3)
