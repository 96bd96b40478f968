-- `track_of` meets its contract.
use borrow.Author.Rules.{rules}
use lib.IntN.{pos}
use lib.ListN.{get_or}
use mir.Syntax.{w32}
use mir.Val.{SFits}
use mir.Facts.{to_z-of_z}
use Rattle.halfcycle.specs.Inside.{track_of}
use Rattle.halfcycle.proofs.track_of.Goals as goal

pub returns : goal.returns
unfolding track_of
returns c =
    let fields = c.args.c.fields in
    let voffs_fits : SFits w32 (get_or fields 0 (pos 0)) = search rules in
    let vgain_fits : SFits w32 (get_or fields 2 (pos 0)) = search rules in
    rw (to_z-of_z voffs_fits, to_z-of_z vgain_fits)
