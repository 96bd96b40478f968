-- `asked` is what a start asks of its alarms.
use mathlib.Core.Path.{◌≡◌}
use native.Mathlib.Omega.{arith}
use lib.IntN.{pos}
use lib.ListN.{length, get_or}
use Rattle.console.specs.Words.{most}
use Rattle.console.proofs.TurnLaws.{any_default}
use borrow.Author.Rules.{rules}
use Rattle.console.proofs.turns.asked.Goals as goal

pub returns : goal.returns
returns c =
    let long : length c.args.x ≡ most = search rules in
    let e : get_or c.args.x 8 (pos 1) ≡ get_or c.args.x 8 (pos 0) = any_default c.args.x 8 (pos 1) (pos 0) (omega arith) in
    rw e (search rules)
