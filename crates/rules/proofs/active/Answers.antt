-- `active` meets its contract.
use borrow.Author.Rules.{sfits_of}
use mathlib.Core.Path.{◌≡◌, ap, ◌∙◌}
use Prim.Native.Nat.{◌*◌}
use lib.IntN.{nat_abs}
use mir.Syntax.{w32, w64}
use mir.Val.{SFits}
use mir.Facts.{to_z-of_z}
use Rattle.range.specs.Range.{clipped}
use Rattle.number.specs.Sign.{lessened}
use Rattle.number.specs.Rounding.{toward_zero}
use Rattle.number.proofs.Fits.{ranges, widen, answer}
use Rattle.rules.specs.Rules.{active_of}
use Rattle.rules.proofs.Bounds.{lessened_fits}
use Rattle.rules.proofs.active.Goals as goal
use Rattle.rules.proofs.active.Goals.{After-clip-p, After-lessen, After-size}

pub overflow_cast-p : goal.overflow_cast-p
overflow_cast-p c = search ranges

pub overflow_cast-poffs : goal.overflow_cast-poffs
overflow_cast-poffs c = search ranges

power : (c : After-clip-p) → c.clip-p.result ≡ clipped (toward_zero c.args.sum (c.args.n * 8388608))
power c =
    c.clip-p.ensures ∙ ap clipped (answer w64 c.toward_zero.type_inv (c.toward_zero.ensures ∙ rw (to_z-of_z c.ranges.sum)))

offset : (c : After-size) → c.size.result ≡ nat_abs c.args.poffs
offset c =
    let h = c.ranges.poffs in
    rw (to_z-of_z h, to_z-of_z (widen h)) at c.size.ensures

left : (c : After-lessen) →
    let a = c.args in
    c.lessen.result ≡ lessened (clipped (toward_zero a.sum (a.n * 8388608))) (nat_abs a.poffs)
left c =
    let p : SFits w32 c.clip-p.result = sfits_of c.clip-p.type_inv in
    c.lessen.ensures ∙ rw (to_z-of_z p, to_z-of_z (widen p), power c.before.before, offset c.before)

small : (c : After-lessen) → SFits w32 c.lessen.result
small c =
    let a = c.args in
    rw (left c) (lessened_fits (toward_zero a.sum (a.n * 8388608)) (nat_abs a.poffs))

pub overflow_cast-result : goal.overflow_cast-result
overflow_cast-result c = rw (to_z-of_z (sfits_of {w = w64} c.lessen.type_inv)) (small c)

pub returns : goal.returns
unfolding active_of
returns c = rw (to_z-of_z (sfits_of {w = w64} c.lessen.type_inv), to_z-of_z (small c)) (left c)
