-- `with_samples` is a block: V, a bar, S1, a bar, S3.
use mathlib.Core.Path.{◌∙◌}
use lib.ListN.{length}
use Rattle.console.specs.Turns.{s1_turn}
use Rattle.console.specs.Inside.{Ended, Stopped}
use Rattle.console.proofs.TurnLaws.{slice_more, slice_not}
use Rattle.console.proofs.turns.with_samples.Goals as goal
use Rattle.console.proofs.turns.with_samples.Goals.{In-Ok, In-Err}

ended : (c : In-Ok) → Ended c.in-Ok.count c.in-Ok.behind.now (length c.args.v.now) c.args.rest.now c.take_slice.new.into
ended c = c.in-Ok.ensures

stops : (c : In-Err) → Stopped c.in-Err.why (length c.args.v.now) c.args.rest.now
stops c = c.in-Err.ensures

pub returns-in-Ok : goal.returns-in-Ok
returns-in-Ok c =
    let a = c.args in
    let e = ended (goal.at.returns-in-Ok c).In-Ok in
    let more = s1_turn (length a.s1.now) (length a.s3.now) a.m.now in
    c.with_s1.ensures ∙ slice_more (length a.v.now) a.m.now a.rest.now more _ _ _ e

pub returns-in-Err : goal.returns-in-Err
returns-in-Err c =
    let a = c.args in
    slice_not (length a.v.now) a.m.now a.rest.now (s1_turn (length a.s1.now) (length a.s3.now) a.m.now) _ (stops (goal.at.returns-in-Err c).In-Err)
