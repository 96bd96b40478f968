-- `factor` meets its contract.
use borrow.Author.Rules.{sfits_of}
use native.Mathlib.Omega.{arith}
use mathlib.Core.Path.{◌≡◌, ap, ◌∙◌}
use borrow.Author.Tests.{eq-eqb, ne_eqb}
use lib.IntN.{pos, negsuc, ◌*ℤ◌}
use mir.Syntax.{w32, w64}
use mir.Val.{SFits}
use mir.Facts.{to_z-of_z}
use Rattle.range.specs.Range.{held_within}
use Rattle.number.specs.Rounding.{toward_zero}
use Rattle.number.proofs.Fits.{ranges, widen, within, answer}
use Rattle.rules.specs.Rules.{factor_of}
use Rattle.rules.proofs.Bounds.{held_in, scaled_fits}
use Rattle.rules.proofs.factor.Goals as goal
use Rattle.rules.proofs.factor.Goals.{After-held_within}

pub returns-then-s-eq0 : goal.returns-then-s-eq0
unfolding factor_of
returns-then-s-eq0 c = rw (eq-eqb _ _ c.if-s-eq0.true)

pub overflow_cast-p : goal.overflow_cast-p
overflow_cast-p c = search ranges

pub overflow_mul-p : goal.overflow_mul-p
overflow_mul-p c = let h = c.ranges.p in rw (to_z-of_z h, to_z-of_z (widen h)) (scaled_fits h)

held : (c : After-held_within) →
    let a = c.args in
    c.held_within.result ≡ held_within (negsuc 4194303) (pos 4194304) (toward_zero (a.p *ℤ pos 4194304) a.s)
held c =
    let q = c.before in
    let h = q.ranges.p in
    c.held_within.ensures
    ∙ ap (held_within (negsuc 4194303) (pos 4194304))
    (answer w64 q.toward_zero-q.type_inv (q.toward_zero-q.ensures ∙ rw (to_z-of_z h, to_z-of_z (widen h), to_z-of_z (scaled_fits h))))

small : (c : After-held_within) → SFits w32 c.held_within.result
small c =
    let a = c.args in
    rw (held c) (within (omega (arith, held_in 4194303 4194304 (toward_zero (a.p *ℤ pos 4194304) a.s))))

pub overflow_cast-result : goal.overflow_cast-result
overflow_cast-result c = rw (to_z-of_z (sfits_of {w = w64} c.held_within.type_inv)) (small c)

pub returns : goal.returns
unfolding factor_of
returns c = rw (to_z-of_z (sfits_of {w = w64} c.held_within.type_inv), to_z-of_z (small c), ne_eqb _ _ c.if-s-eq0.false) (held c)
