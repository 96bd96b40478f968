-- `typed::size_of` meets its contract: the loop takes one digit after another.
use Prim.Native.Nat.{ℕ, ◌+◌, ◌-◌, ◌*◌}
use mathlib.Core.Path.{◌≡◌, refl, sym, ap, ◌∙◌}
use native.Mathlib.Omega.{arith}
use lib.ListN.{length, get_or}
use Rattle.typed.specs.Values.{numeral, held}
use Rattle.typed.proofs.Laws.{held_more, numeral_more}
use Rattle.typed.proofs.size_of.Goals as goal

pub loop-d-init : goal.loop-d-init
unfolding held numeral
loop-d-init c = (refl, omega arith)

pub loop-d-preserved : goal.loop-d-preserved
loop-d-preserved c =
    let l = c.loop-d in
    let t = c.args.text.now in
    let k = l.d-index in (
      c.hold-n.ensures.0
          ∙ ap (λ (d : ℕ). held (10 * l.n + d)) c.digit.ensures.0
          ∙ ap (λ (n : ℕ). held (10 * n + (get_or t k 0 - 48))) l.invariant.0
          ∙ held_more (numeral t k) (get_or t k 0 - 48)
          ∙ ap held (sym (numeral_more t k)),
      c.hold-n.ensures.1,
    )

pub returns : goal.returns
returns c =
    let l = c.loop-d in
    let e : l.d-index ≡ length c.args.text.now = omega arith in
    (rw e at l.invariant.0, l.invariant.1)
