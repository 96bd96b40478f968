-- `listing::put_fields` meets its contract: the fields passed stand in the line.
use Prim.Native.Nat.{◌≤◌}
use mathlib.Core.Path.{◌≡◌}
use native.Mathlib.Omega.{arith}
use lib.IntN.{ℤ, pos}
use lib.ListN.{length, get_or}
use mir.Syntax.{w32}
use mir.Val.{SFits}
use mir.Facts.{to_z-of_z}
use lib.Seq.{take_all}
use Rattle.number.proofs.Signed.{abs_is}
use Rattle.number.proofs.Fits.{range, widen}
use Rattle.decimal.specs.Decimals.{signed_decimal}
use Rattle.decimal.proofs.Digits.{limit, signed_at_most}
use Rattle.listing.specs.Lines.{fields_text}
use Rattle.listing.proofs.Lines.{made_none, made_in, fields_turn}
use borrow.Author.Rules.{rules}
use Rattle.listing.proofs.put_fields.Goals as goal
use Rattle.listing.proofs.put_fields.Goals.{After-put_text-place}

pub loop-field-init : goal.loop-field-init
unfolding fields_text
loop-field-init c = (omega arith, c.requires, made_none _ _, omega arith)

value : (c : After-put_text-place) → ℤ
value c = get_or c.args.fields c.loop-field.field-index (pos 0)

small : (c : After-put_text-place) → SFits w32 (value c)
unfolding value
small c = search rules

-- no i32 has more than eleven bytes
short : (c : After-put_text-place) → length (signed_decimal (value c)) ≤ 11
unfolding limit
short c = signed_at_most 9 (value c) (omega (arith, abs_is (value c), range (small c)))

pub put_text-place-requires : goal.put_text-place-requires
put_text-place-requires c =
    omega (arith, c.loop-field.invariant.3)

pub overflow_cast-field : goal.overflow_cast-field
unfolding value
overflow_cast-field c = rw (to_z-of_z (small (goal.at.overflow_cast-field c).After-put_text-place)) (widen (small (goal.at.overflow_cast-field c).After-put_text-place))

pub put_number-at-requires : goal.put_number-at-requires
unfolding value
put_number-at-requires c =
    let s = small (goal.at.put_number-at-requires c).After-put_text-place in
    rw (to_z-of_z s, to_z-of_z (widen s))
    (omega (arith, c.put_text-place.ensures.0.place, c.loop-field.invariant.3, short (goal.at.put_number-at-requires c).After-put_text-place))

pub loop-field-preserved : goal.loop-field-preserved
unfolding value
loop-field-preserved c =
    let a = c.args in
    let s = small (goal.at.loop-field-preserved c).After-put_text-place in
    let e = c.put_text-place.ensures in
    let q = rw (to_z-of_z s, to_z-of_z (widen s)) at c.put_number-at.ensures in
    let whole : length a.out.now ≡ 205852 = made_in _ _ _ _ _ c.loop-field.invariant.2 e.1 (omega (arith, c.loop-field.invariant.3, c.loop-field.invariant.1)) in (
      omega arith,
      c.loop-field.invariant.1,
      fields_turn a.out.now c.loop-field.out c.put_text-place.new.out c.put_number-at.new.out a.from c.loop-field.at c.put_text-place.result c.put_number-at.result a.fields c.loop-field.field-index
          (search rules) (omega (arith, whole, c.loop-field.invariant.1, c.loop-field.invariant.3)) (short (goal.at.loop-field-preserved c).After-put_text-place) c.loop-field.invariant.2 e.0 q.0,
      omega (arith, c.loop-field.invariant.3, e.0.place, q.0.place, short (goal.at.loop-field-preserved c).After-put_text-place),
    )

pub returns : goal.returns
returns c =
    let a = c.args in
    let e : c.loop-field.field-index ≡ 8 = omega arith in
    let eight : length a.fields ≡ 8 = search rules in
    let m = rw (e, take_all 8 a.fields (omega arith)) at c.loop-field.invariant.2 in
    (m, omega (arith, c.loop-field.invariant.3))
