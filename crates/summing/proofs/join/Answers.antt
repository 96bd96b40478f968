-- `join` meets its contract.
use Prim.Native.Nat.{max}
use native.Mathlib.Omega.{arith}
use mathlib.Core.Path.{◌≡◌, ◌∙◌}
use lib.IntN.{nat_abs, ◌+ℤ◌, ◌*ℤ◌}
use lib.Signed.{nat_abs-le}
use mir.Syntax.{w64}
use mir.Val.{SFits}
use mir.Facts.{to_z-of_z}
use Rattle.number.specs.Sign.{square_of}
use Rattle.number.proofs.Fits.{widen, product_fits}
use Rattle.sample.specs.Sums.{joined}
use Rattle.sample.proofs.Rooms.{square24, vi_fits, vi_more}
use Rattle.summing.proofs.join.Goals as goal
use Rattle.summing.proofs.join.Goals.{After-product, After-size-z, After-square, Start, then-k-z, else-k-z}

pub overflow_cast-i : goal.overflow_cast-i
overflow_cast-i c = rw (to_z-of_z c.ranges.i) (widen c.ranges.i)

sized : (c : After-size-z) → c.size-z.result ≡ nat_abs c.args.i
sized c = c.size-z.ensures ∙ rw (to_z-of_z c.ranges.i, to_z-of_z (widen c.ranges.i))

pub overflow_cast-z : goal.overflow_cast-z
overflow_cast-z c = record { fits = omega (arith, sized c, nat_abs-le c.args.i c.requires.2) }

squared : (c : After-square) → c.square.result ≡ square_of c.args.i
squared c = c.square.ensures ∙ rw (to_z-of_z c.ranges.i)

pub overflow_add-result : goal.overflow_add-result
overflow_add-result c =
    record { fits = omega (arith, squared (goal.at.overflow_add-result c).After-square, square24 c.args.i c.requires.2, c.requires.0.ii) }

product_is : (c : After-product) → let a = c.args in c.product.result ≡ a.v *ℤ a.i
product_is c =
    c.product.ensures ∙ rw (to_z-of_z c.ranges.v, to_z-of_z c.ranges.i)

v_product : (c : Start) → SFits w64 (c.args.v *ℤ c.args.i)
v_product c = product_fits c.ranges.v c.ranges.i

old_fits : (c : Start) → SFits w64 c.args.f.vi
old_fits c = vi_fits c.args.f.vi 4096 (omega arith) c.requires.0.vi

new_fits : (c : Start) → SFits w64 (c.args.f.vi +ℤ c.args.v *ℤ c.args.i)
new_fits c =
    let a = c.args in
    vi_fits (a.f.vi +ℤ a.v *ℤ a.i) 4097 (omega arith) (vi_more a.f.vi a.v a.i 4096 c.requires.1 c.requires.2 c.requires.0.vi)

pub overflow_add-result-2 : goal.overflow_add-result-2
overflow_add-result-2 c =
    rw (product_is (goal.at.overflow_add-result-2 c).After-product, to_z-of_z (v_product (goal.at.overflow_add-result-2 c).Start), to_z-of_z (old_fits (goal.at.overflow_add-result-2 c).Start)) (new_fits (goal.at.overflow_add-result-2 c).Start)

pub returns : goal.returns
unfolding joined
returns c =
    let e = sized (goal.at.returns c).After-size-z in
    let peak_is : c.if-k-z.peak ≡ max c.args.f.peak (nat_abs c.args.i) = elim c.if-k-z.branch [ then-k-z w ↦ omega (arith, e) | else-k-z w ↦ omega (arith, e) ] in
    rw (product_is (goal.at.returns c).After-product, squared (goal.at.returns c).After-square, to_z-of_z (v_product (goal.at.returns c).Start), to_z-of_z (old_fits (goal.at.returns c).Start), to_z-of_z (new_fits (goal.at.returns c).Start), peak_is)
