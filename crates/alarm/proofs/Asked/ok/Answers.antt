-- `ok` meets its contract.
use mir.Facts.{to_z-of_z}
use mir.Syntax.{w64}
use mir.Val.{SFits}
use borrow.Author.Rules.{rules}
use Rattle.alarm.specs.Starting.{numbers_ok, asked_ok}
use Rattle.alarm.proofs.Asked.ok.Goals as goal

pub returns : goal.returns
unfolding asked_ok numbers_ok
returns c =
    let w : SFits w64 c.args.self.w = search rules in
    let vsag : SFits w64 c.args.self.vsag = search rules in
    let vsurge : SFits w64 c.args.self.vsurge = search rules in
    let sticky : SFits w64 c.args.self.sticky = search rules in
    rw (c.only_alarms.ensures, to_z-of_z w, to_z-of_z vsag, to_z-of_z vsurge, to_z-of_z sticky)
