-- `decimal::number_text` meets its contract.
use Prim.Native.Nat.{◌-◌, ◌<◌}
use mathlib.Core.Path.{◌≡◌, ap, ◌∙◌}
use native.Mathlib.Omega.{arith}
use lib.IntN.{nat_abs}
use lib.ListN.{length, set}
use mir.Facts.{to_z-of_z}
use Rattle.number.proofs.Signed.{abs_is}
use Rattle.number.proofs.Fits.{range}
use Rattle.decimal.specs.declared.Text.{Text}
use Rattle.decimal.specs.Decimals.{decimal, at_end, number_text}
use Rattle.decimal.proofs.Digits.{limit, at_most}
use Rattle.decimal.proofs.Places.{text, one_more, place, minus, plain}
use Rattle.decimal.proofs.number_text.Goals as goal
use Rattle.decimal.proofs.number_text.Goals.{After-digits_of-t, After-size, Start}

sized : (c : After-size) → c.size.result ≡ nat_abs c.args.v
sized c = rw (to_z-of_z c.ranges.v) at c.size.ensures

small : (c : Start) → nat_abs c.args.v < 10000000000000000000
small c = omega (arith, abs_is c.args.v, range c.ranges.v)

pub digits_of-t-requires : goal.digits_of-t-requires
digits_of-t-requires c = omega (arith, sized c, small c.before)

-- what stands before the sign is tried
unsigned : (c : After-digits_of-t) → c.digits_of-t.result ≡ at_end (decimal (nat_abs c.args.v))
unsigned c = c.digits_of-t.ensures ∙ ap (λ n. at_end (decimal n)) (sized c.before)

room : (c : Start) → length (decimal (nat_abs c.args.v)) < 20
unfolding limit
room c = omega (arith, at_most 18 (nat_abs c.args.v) (small c))

pub overflow_sub-from : goal.overflow_sub-from
overflow_sub-from c = rw (ap (λ (t : Text). t.from) (unsigned c.before)) (place _ (room c.before.before.before)).0

pub bounds-t-from : goal.bounds-t-from
bounds-t-from c =
    let e = ap (λ (t : Text). t.from) (unsigned c.before) in
    let p = place (decimal (nat_abs c.args.v)) (room c.before.before.before) in
    omega (arith, e, p)

pub returns-then-v-lt0 : goal.returns-then-v-lt0
unfolding number_text
returns-then-v-lt0 c =
    let a = c.before.before.before in
    let v = a.args.v in
    ap (λ (t : Text). text (set t.bytes (t.from - 1) 45) (t.from - 1)) (unsigned c.before)
    ∙ one_more (decimal (nat_abs v)) 45 (room a)
    ∙ ap at_end (minus v (rw (to_z-of_z a.ranges.v) at c.if-v-lt0.true))

pub returns-else-v-lt0 : goal.returns-else-v-lt0
unfolding number_text
returns-else-v-lt0 c = unsigned c.before ∙ ap at_end (plain c.args.v (rw (to_z-of_z c.ranges.v) at c.if-v-lt0.false))
