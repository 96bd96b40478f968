-- `slide` meets its contract. The loop keeps the window: what it holds, and the voltages that are left, come to what all of them do.
use Prim.Native.Nat.{ℕ, ◌+◌}
use native.Mathlib.Omega.{arith}
use mathlib.Core.Path.{◌≡◌, refl, sym, ap, subst, ◌∙◌}
use borrow.Author.Rules.{rules}
use lib.IntN.{pos}
use lib.ListN.{get_or, drop}
use mir.Syntax.{w32}
use mir.Val.{SFits}
use mir.Facts.{to_z-of_z}
use Rattle.halfcycle.specs.Inside.{Swing, swing, swept, swept_all, Kept}
use Rattle.halfcycle.proofs.Windows.{kept_swept, swept_step, swept_end}
use Rattle.halfcycle.proofs.slide.Goals as goal
use Rattle.halfcycle.proofs.slide.Goals.{After-step_on-t, After-step_on-t-in-loop-k}

pub loop-k-init : goal.loop-k-init
loop-k-init c = (omega arith, omega arith, c.requires, refl)

pub overflow_sub-v : goal.overflow_sub-v
overflow_sub-v c = omega arith

pub step_on-t-requires : goal.step_on-t-requires
step_on-t-requires c = c.loop-k.invariant.2

-- what one voltage leaves, and the second
first : (c : After-step_on-t) →
    let a = c.args in
    swing c.step_on-t.result c.step_on-t.new.volts ≡ swept a.p (swing c.loop-k.t c.loop-k.volts) (get_or a.v.now c.loop-k.k (pos 0))
first c = let h : SFits w32 (get_or c.args.v.now c.loop-k.k (pos 0)) = search rules in rw (to_z-of_z h) at c.step_on-t.ensures

pub step_on-t-requires-in-loop-k : goal.step_on-t-requires-in-loop-k
step_on-t-requires-in-loop-k c =
    let a = c.args in
    subst (λ (q : Swing). Kept a.p.w q.sweep.at q.sweep.sum q.volts) (sym (first (goal.at.step_on-t-requires-in-loop-k c).After-step_on-t))
    (kept_swept a.p (swing c.loop-k.t c.loop-k.volts) (get_or a.v.now c.loop-k.k (pos 0)) c.loop-k.invariant.2)

second : (c : After-step_on-t-in-loop-k) →
    let a = c.args in
    swing c.step_on-t-in-loop-k.result c.step_on-t-in-loop-k.new.volts ≡ swept a.p (swing c.step_on-t.result c.step_on-t.new.volts) (get_or a.v.now (c.loop-k.k + 1) (pos 0))
second c = let h : SFits w32 (get_or c.args.v.now (c.loop-k.k + 1) (pos 0)) = search rules in rw (to_z-of_z h) at c.step_on-t-in-loop-k.ensures

pub loop-k-preserved : goal.loop-k-preserved
loop-k-preserved c =
    let g = goal.at.loop-k-preserved c in
    let a = c.args in
    let v = a.v.now in
    let k = c.loop-k.k in
    let i = c.loop-k.invariant in
    let t = c.loop-k-test.true in
    let q = swing c.loop-k.t c.loop-k.volts in
    let x = get_or v k (pos 0) in
    let y = get_or v (k + 1) (pos 0) in
    let r = swept a.p (swept a.p q x) y in
    let two : k + 2 ≡ (k + 1) + 1 = omega arith in
    let e = second g.After-step_on-t-in-loop-k ∙ ap (λ (q : Swing). swept a.p q y) (first g.After-step_on-t) in (
      omega (arith, i.0, i.1, t),
      omega (arith, i.1),
      subst (λ (q : Swing). Kept a.p.w q.sweep.at q.sweep.sum q.volts) (sym e) (kept_swept a.p (swept a.p q x) y (kept_swept a.p q x i.2)),
      ap (λ (z : Swing). swept_all a.p z (drop (k + 2) v)) e
          ∙ ap (λ (n : ℕ). swept_all a.p r (drop n v)) two
          ∙ sym (swept_step a.p (swept a.p q x) v (k + 1) (omega (arith, i.0, i.1, t)))
          ∙ sym (swept_step a.p q v k (omega (arith, t)))
          ∙ i.3,
    )

pub step_on-requires : goal.step_on-requires
step_on-requires c = c.loop-k.invariant.2

pub returns-then-k-v : goal.returns-then-k-v
returns-then-k-v c =
    let a = c.args in
    let v = a.v.now in
    let k = c.loop-k.k in
    let i = c.loop-k.invariant in
    let q = swing c.loop-k.t c.loop-k.volts in
    let x = get_or v k (pos 0) in
    let h : SFits w32 (get_or c.args.v.now c.loop-k.k (pos 0)) = search rules in
    (rw (to_z-of_z h) at c.step_on.ensures)
    ∙ sym (swept_end a.p (swept a.p q x) v (k + 1) (omega (arith, i.0, c.loop-k-test.false)))
    ∙ sym (swept_step a.p q v k c.if-k-v.true)
    ∙ i.3

pub returns : goal.returns
returns c =
    let a = c.args in
    sym (swept_end a.p (swing c.loop-k.t c.loop-k.volts) a.v.now c.loop-k.k c.if-k-v.false) ∙ c.loop-k.invariant.3
