-- Each public contract decides its outcome: of two results that it allows, each is the other.
use mathlib.Core.Path.{refl, sym, ◌∙◌}
use Rattle.promise.specs.Determined.{Decided}
use Rattle.steps.proofs.Answers.{same_answer}
use Rattle.alarm.proofs.lowest.Kinds as lowest-k
use Rattle.alarm.proofs.lowest.Reads as lowest
use Rattle.alarm.proofs.start.Kinds as start-k
use Rattle.alarm.proofs.start.Reads as start
use Rattle.alarm.proofs.Watch.reset.Kinds as reset-k
use Rattle.alarm.proofs.Watch.reset.Reads as reset

pub lowest_decided : Decided 0 lowest-k.ps lowest-k.r lowest.Pre lowest.Post
lowest_decided = record { always = λ κs a. tt; determined = λ κs a p z z' ws ws' q q'. (q ∙ sym q', refl) }

pub start_decided : Decided 0 start-k.ps start-k.r start.Pre start.Post
start_decided = record { always = λ κs a. tt; determined = λ κs a p z z' ws ws' q q'. (same_answer _ _ (q ∙ sym q'), refl) }

pub reset_decided : Decided 0 reset-k.ps reset-k.r reset.Pre reset.Post
reset_decided = record { always = λ κs a. tt; determined = λ κs a p z z' ws ws' q q'. (same_answer _ _ (q ∙ sym q'), refl) }
