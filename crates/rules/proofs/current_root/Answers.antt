-- `current_root` meets its contract.
use lib.IntN.{pos}
use lib.ListN.{get_or}
use mir.Syntax.{w32}
use mir.Val.{SFits}
use mir.Facts.{to_z-of_z}
use Rattle.rules.specs.Source.{current_root}
use borrow.Author.Rules.{rules}
use Rattle.rules.proofs.current_root.Goals as goal

pub returns : goal.returns
unfolding current_root
returns c =
    let start = c.before.before.before.before in
    let h5 : SFits w32 (get_or start.args.c.fields 5 (pos 0)) = search rules in
    rw (c.root_mean_square.ensures, c.square.ensures, to_z-of_z h5)
