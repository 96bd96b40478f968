-- Each public contract decides its outcome: of two results that it allows, each is the other, and so of what a lent array holds.
use mathlib.Core.Path.{refl, sym, ◌∙◌}
use Rattle.promise.specs.Determined.{Decided}
use Rattle.steps.proofs.Answers.{same_answer}
use Rattle.meter.proofs.Meter.block.Kinds as block-k
use Rattle.meter.proofs.Meter.block.Reads as block
use Rattle.meter.proofs.Meter.wait.Kinds as wait-k
use Rattle.meter.proofs.Meter.wait.Reads as wait
use Rattle.meter.proofs.lowest.Kinds as lowest-k
use Rattle.meter.proofs.lowest.Reads as lowest
use Rattle.meter.proofs.start.Kinds as start-k
use Rattle.meter.proofs.start.Reads as start

-- the lent voltages: what is left in them is `ws.1.1.0`
pub block_decided : Decided 4 block-k.ps block-k.r block.Pre block.Post
block_decided = record { always = λ κs a. tt; determined = λ κs a p z z' ws ws' q q'. (same_answer _ _ (q.0 ∙ sym q'.0), λ i. (tt, (tt, ((q.1 ∙ sym q'.1) i, (tt, (tt, (tt, tt))))))) }

pub wait_decided : Decided 0 wait-k.ps wait-k.r wait.Pre wait.Post
wait_decided = record { always = λ κs a. tt; determined = λ κs a p z z' ws ws' q q'. (q ∙ sym q', refl) }

pub lowest_decided : Decided 0 lowest-k.ps lowest-k.r lowest.Pre lowest.Post
lowest_decided = record { always = λ κs a. tt; determined = λ κs a p z z' ws ws' q q'. (q ∙ sym q', refl) }

pub start_decided : Decided 0 start-k.ps start-k.r start.Pre start.Post
start_decided = record { always = λ κs a. tt; determined = λ κs a p z z' ws ws' q q'. (same_answer _ _ (q ∙ sym q'), refl) }
