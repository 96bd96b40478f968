-- `serial::copy_in` meets its contract: k bytes of xs stand in b.
use mathlib.Core.Path.{◌≡◌, ◌∙◌}
use native.Mathlib.Omega.{arith}
use lib.ListN.{length}
use Rattle.serial.proofs.Places.{copied_none, copied_more, copied_all}
use Rattle.serial.proofs.copy_in.Goals as goal

pub loop-k-init : goal.loop-k-init
loop-k-init c = copied_none c.args.b.now c.args.xs.now c.args.at

pub loop-k-preserved : goal.loop-k-preserved
loop-k-preserved c =
    let a = c.args in
    rw c.loop-k.invariant (copied_more a.b.now a.xs.now a.at c.loop-k.k (omega arith) (omega arith))

pub returns : goal.returns
returns c =
    let a = c.args in
    let e : c.loop-k.k ≡ length a.xs.now = omega arith in
    (rw e at c.loop-k.invariant) ∙ copied_all a.b.now a.xs.now a.at
