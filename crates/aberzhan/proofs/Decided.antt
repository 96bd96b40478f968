-- Each public contract decides its outcome: of two results that it allows, each is the other.
use mathlib.Core.Path.{◌≡◌, refl, sym, ap, ap₂, ◌∙◌}
use Rattle.promise.specs.Determined.{Decided}
use Rattle.std.specs.Prelude.{Result}
use Rattle.refusal.specs.declared.Refusal.{Refusal}
use Rattle.steps.proofs.Answers.{same_answer}
use Rattle.aberzhan.specs.declared.Module.{Module}
use Rattle.aberzhan.specs.declared.Started.{Started}
use Rattle.aberzhan.specs.Module.{Outcome, started}
use Rattle.aberzhan.proofs.Module.start.Kinds as starts-k
use Rattle.aberzhan.proofs.Module.start.Reads as starts
use Rattle.aberzhan.proofs.Module.open.Kinds as opens-k
use Rattle.aberzhan.proofs.Module.open.Reads as opens
use Rattle.aberzhan.proofs.Module.write.Kinds as writes-k
use Rattle.aberzhan.proofs.Module.write.Reads as writes
use Rattle.aberzhan.proofs.Module.commit.Kinds as commits-k
use Rattle.aberzhan.proofs.Module.commit.Reads as commits
use Rattle.aberzhan.proofs.Module.drop.Kinds as drops-k
use Rattle.aberzhan.proofs.Module.drop.Reads as drops
use Rattle.aberzhan.proofs.Module.hold.Kinds as holds-k
use Rattle.aberzhan.proofs.Module.hold.Reads as holds
use Rattle.aberzhan.proofs.Module.read.Kinds as reads-k
use Rattle.aberzhan.proofs.Module.read.Reads as reads
use Rattle.aberzhan.proofs.Module.poll.Kinds as polls-k
use Rattle.aberzhan.proofs.Module.poll.Reads as polls
use Rattle.aberzhan.proofs.Module.block.Kinds as blocks-k
use Rattle.aberzhan.proofs.Module.block.Reads as blocks
use Rattle.aberzhan.proofs.Module.reset.Kinds as resets-k
use Rattle.aberzhan.proofs.Module.reset.Reads as resets
use Rattle.aberzhan.proofs.Module.cards.Kinds as cards-k
use Rattle.aberzhan.proofs.Module.cards.Reads as cards

-- the parts of two outcomes that are the same
answers : {A : Type 0} {x y : Outcome A} → x ≡ y → x.answer ≡ y.answer
answers {A} e = ap (λ (x : Outcome A). x.answer) e

afters : {A : Type 0} {x y : Outcome A} → x ≡ y → x.after ≡ y.after
afters {A} e = ap (λ (x : Outcome A). x.after) e

abbrev make : Result (Unit {0}) Refusal → Module → Started
make a m = record { answer = a; «module» = m }

same_start : (x y : Started) → started x ≡ started y → x ≡ y
same_start x y e =
    ap₂ make (same_answer x.answer y.answer (answers e)) (afters e)

pub start_decided : Decided 0 starts-k.ps starts-k.r starts.Pre starts.Post
start_decided = record { always = λ κs a. tt; determined = λ κs a p z z' ws ws' q q'. (same_start _ _ (q ∙ sym q'), refl) }

pub open_decided : Decided 2 opens-k.ps opens-k.r opens.Pre opens.Post
open_decided = record { always = λ κs a. tt; determined = λ κs a p z z' ws ws' q q'. let e = q ∙ sym q' in (same_answer _ _ (answers e), λ i. ((afters e) i, (tt, (tt, tt)))) }

pub write_decided : Decided 1 writes-k.ps writes-k.r writes.Pre writes.Post
write_decided = record { always = λ κs a. tt; determined = λ κs a p z z' ws ws' q q'. let e = q ∙ sym q' in (same_answer _ _ (answers e), λ i. ((afters e) i, (tt, (tt, (tt, tt))))) }

pub commit_decided : Decided 1 commits-k.ps commits-k.r commits.Pre commits.Post
commit_decided = record { always = λ κs a. tt; determined = λ κs a p z z' ws ws' q q'. let e = q ∙ sym q' in (same_answer _ _ (answers e), λ i. ((afters e) i, (tt, tt))) }

pub drop_decided : Decided 1 drops-k.ps drops-k.r drops.Pre drops.Post
drop_decided = record { always = λ κs a. tt; determined = λ κs a p z z' ws ws' q q'. let e = q ∙ sym q' in (same_answer _ _ (answers e), λ i. ((afters e) i, (tt, tt))) }

pub hold_decided : Decided 1 holds-k.ps holds-k.r holds.Pre holds.Post
hold_decided = record { always = λ κs a. tt; determined = λ κs a p z z' ws ws' q q'. let e = q ∙ sym q' in (same_answer _ _ (answers e), λ i. ((afters e) i, (tt, tt))) }

pub read_decided : Decided 1 reads-k.ps reads-k.r reads.Pre reads.Post
read_decided = record { always = λ κs a. tt; determined = λ κs a p z z' ws ws' q q'. (same_answer _ _ (q ∙ sym q'), refl) }

-- the module is lent first, the buffer third
pub poll_decided : Decided 3 polls-k.ps polls-k.r polls.Pre polls.Post
poll_decided = record { always = λ κs a. tt; determined = λ κs a p z z' ws ws' q q'. let e = q.0 ∙ sym q'.0 in (same_answer _ _ (answers e), λ i. ((afters e) i, (tt, ((q.1 ∙ sym q'.1) i, tt)))) }

pub block_decided : Decided 4 blocks-k.ps blocks-k.r blocks.Pre blocks.Post
block_decided = record { always = λ κs a. tt; determined = λ κs a p z z' ws ws' q q'. let e = q ∙ sym q' in (same_answer _ _ (answers e), λ i. ((afters e) i, (tt, (tt, (tt, tt))))) }

pub reset_decided : Decided 1 resets-k.ps resets-k.r resets.Pre resets.Post
reset_decided = record { always = λ κs a. tt; determined = λ κs a p z z' ws ws' q q'. let e = q ∙ sym q' in (same_answer _ _ (answers e), λ i. ((afters e) i, (tt, tt))) }

pub cards_decided : Decided 1 cards-k.ps cards-k.r cards.Pre cards.Post
cards_decided = record { always = λ κs a. tt; determined = λ κs a p z z' ws ws' q q'. (q ∙ sym q', refl) }
