-- `with_s1` is a block behind its first bar.
use mathlib.Core.Path.{◌∙◌}
use lib.ListN.{length}
use Rattle.console.specs.Turns.{s3_turn}
use Rattle.console.specs.Inside.{Ended, Stopped}
use Rattle.console.proofs.TurnLaws.{slice_more, slice_not}
use Rattle.console.proofs.turns.with_s1.Goals as goal
use Rattle.console.proofs.turns.with_s1.Goals.{In-Ok, In-Err}

ended : (c : In-Ok) → Ended c.in-Ok.count c.in-Ok.rest.now (length c.args.s1.now) c.args.text.now c.take_slice.new.into
ended c = c.in-Ok.ensures

stops : (c : In-Err) → Stopped c.in-Err.why (length c.args.s1.now) c.args.text.now
stops c = c.in-Err.ensures

pub returns-in-Ok : goal.returns-in-Ok
returns-in-Ok c =
    let a = c.args in
    let e = ended (goal.at.returns-in-Ok c).In-Ok in
    let more = s3_turn (length a.s3.now) a.m.now a.v.now in
    c.with_s3.ensures ∙ slice_more (length a.s1.now) a.m.now a.text.now more _ _ _ e

pub returns-in-Err : goal.returns-in-Err
returns-in-Err c =
    let a = c.args in
    slice_not (length a.s1.now) a.m.now a.text.now (s3_turn (length a.s3.now) a.m.now a.v.now) _ (stops (goal.at.returns-in-Err c).In-Err)
