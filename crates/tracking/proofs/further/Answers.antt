-- `further` meets its contract.
use mathlib.Core.Path.{◌≡◌, ap, sym}
use mathlib.Core.Bool.{Bool, cond}
use lib.IntN.{ℤ}
use mir.Facts.{to_z-of_z}
use Rattle.tracking.specs.Tracking.{further}
use Rattle.tracking.proofs.further.Goals as goal

-- what is chosen, by the test's value
chosen : {t u : Bool} (now old : ℤ) → t ≡ u → cond u now old ≡ cond t now old
chosen now old e = ap (λ (t : Bool). cond t now old) (sym e)

pub returns-then-first-beyond : goal.returns-then-first-beyond
unfolding further
returns-then-first-beyond c = rw (to_z-of_z c.ranges.now) (chosen c.args.now c.args.old c.if-first-beyond.true)

pub returns-else-first-beyond : goal.returns-else-first-beyond
unfolding further
returns-else-first-beyond c = rw (to_z-of_z c.ranges.old) (chosen c.args.now c.args.old c.if-first-beyond.false)
