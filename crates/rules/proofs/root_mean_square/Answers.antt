-- `root_mean_square` meets its contract.
use mathlib.Core.Path.{sym, ap, ◌∙◌}
use Prim.Native.Nat.{ℕ}
use Rattle.rules.specs.Rules.{rms}
use Rattle.rules.proofs.Bounds.{rms_of_none, rms_none}
use Rattle.rules.proofs.root_mean_square.Goals as goal

pub returns-then-n-eq0 : goal.returns-then-n-eq0
returns-then-n-eq0 c = let a = c.args in sym (ap (λ (n : ℕ). rms a.sum n a.less) c.if-n-eq0.true ∙ rms_of_none a.sum a.less)

pub returns-then-mean-less : goal.returns-then-mean-less
returns-then-mean-less c = let a = c.args in sym (rms_none a.sum a.n a.less c.if-mean-less.true)

pub returns : goal.returns
unfolding rms
returns c = rw (c.cap.ensures, c.root.ensures)
