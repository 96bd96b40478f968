-- `uses_both` meets its contract.
use mathlib.Core.Bool.{not, ◌&&◌}
use mathlib.Core.Path.{ap, ap₂}
use mir.Syntax.{w8}
use mir.Val.{SFits}
use borrow.Author.Rules.{rules}
use Rattle.source.specs.Sources.{uses_both}
use Rattle.source.proofs.Blends.{zero_test}
use Rattle.source.proofs.uses_both.Goals as goal

pub returns : goal.returns
unfolding uses_both
returns c =
    let m = c.args.m in
    let h1 : SFits w8 m.m1 = search rules in
    let h3 : SFits w8 m.m3 = search rules in
    ap₂ ◌&&◌ (ap not (zero_test m.m1 h1)) (ap not (zero_test m.m3 h3))
