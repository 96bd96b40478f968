-- `active_power` meets its contract.
use borrow.Author.Rules.{rules, sfits_of}
use lib.IntN.{pos}
use lib.ListN.{get_or}
use mir.Syntax.{w32, w64}
use mir.Val.{SFits}
use mir.Facts.{to_z-of_z}
use Rattle.rules.proofs.active_power.Goals as goal

pub returns : goal.returns
returns c =
    let start = c.before.before.before.before in
    let h7 : SFits w32 (get_or start.args.c.fields 7 (pos 0)) = search rules in
    let hs : SFits w64 start.args.f.vi = search rules in
    rw (to_z-of_z (sfits_of {w = w32} c.active.type_inv), c.active.ensures, to_z-of_z h7, to_z-of_z hs)
