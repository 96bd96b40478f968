-- What a caller finds who lends the bytes of a number's text from their place on.
use Prim.Native.Nat.{◌-◌, ◌≤◌}
use mathlib.Core.Path.{◌≡◌}
use native.Mathlib.Omega.{arith}
use lib.IntN.{ℤ}
use lib.ListN.{length, take, drop, replicate, length-replicate}
use lib.Seq.{take_all, drop_at}
use mir.Syntax.{w64}
use mir.Val.{SFits}
use Rattle.number.proofs.Signed.{abs_is}
use Rattle.number.proofs.Fits.{range}
use Rattle.decimal.specs.Decimals.{signed_decimal, at_end, number_text}
use Rattle.decimal.proofs.Digits.{limit, signed_at_most}

pub at_most_twenty : {v : ℤ} → SFits w64 v → length (signed_decimal v) ≤ 20
unfolding limit
at_most_twenty {v} h = signed_at_most 18 v (omega (arith, abs_is v, range h))

pub place_within : (v : ℤ) → (number_text v).from ≤ 20
unfolding number_text at_end
place_within v = omega arith

pub shown : {v : ℤ} → SFits w64 v → take (20 - (number_text v).from) (drop (number_text v).from (number_text v).bytes) ≡ signed_decimal v
unfolding number_text at_end
shown {v} h =
    let n = 20 - length (signed_decimal v) in
    rw (drop_at (replicate n 0) (signed_decimal v) n (length-replicate n 0))
    (take_all (20 - n) (signed_decimal v) (omega (arith, at_most_twenty h)))

-- the same of `Text::text`: what it lends of a number's text is the number in decimal
pub text_is : {v : ℤ} → SFits w64 v → drop (number_text v).from (number_text v).bytes ≡ signed_decimal v
unfolding number_text at_end
text_is {v} h =
    let n = 20 - length (signed_decimal v) in
    drop_at (replicate n 0) (signed_decimal v) n (length-replicate n 0)
