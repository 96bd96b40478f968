-- `range::held_within` meets its contract.
use mathlib.Core.Path.{◌≡◌, refl, sym, ap, ◌∙◌}
use mathlib.Core.Bool.{Bool, true, false, cond}
use lib.IntN.{ℤ}
use mir.Facts.{to_z-of_z}
use Rattle.range.specs.Range.{held_within}
use Rattle.range.proofs.held_within.Goals as goal

-- `range::held_within` meets its contract.
-- the side that a test chooses
first : (t : Bool) (a b : ℤ) → t ≡ true → a ≡ cond t a b
first t a b e = sym (ap (λ (s : Bool). cond s a b) e)

second : (t : Bool) (a b c : ℤ) → t ≡ false → c ≡ b → c ≡ cond t a b
second t a b c e h = h ∙ sym (ap (λ (s : Bool). cond s a b) e)

pub returns-then-x-lo : goal.returns-then-x-lo
unfolding held_within
returns-then-x-lo c =
    let f = c.ranges in
    rw (to_z-of_z f.lo) (first _ _ _ (simp (to_z-of_z f.x, to_z-of_z f.lo) at c.if-x-lo.true))

pub returns-then-hi-x : goal.returns-then-hi-x
unfolding held_within
returns-then-hi-x c =
    let f = c.ranges in
    let at_least = simp (to_z-of_z f.x, to_z-of_z f.lo) at c.if-x-lo.false in
    rw (to_z-of_z f.hi) (second _ _ _ _ at_least (first _ _ _ (simp (to_z-of_z f.x, to_z-of_z f.hi) at c.if-hi-x.true)))

pub returns-else-hi-x : goal.returns-else-hi-x
unfolding held_within
returns-else-hi-x c =
    let f = c.ranges in
    let not_below = simp (to_z-of_z f.x, to_z-of_z f.lo) at c.if-x-lo.false in
    rw (to_z-of_z f.x) (second _ _ _ _ not_below (second _ _ _ _ (simp (to_z-of_z f.x, to_z-of_z f.hi) at c.if-hi-x.false) refl))
