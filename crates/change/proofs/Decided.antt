-- Each public contract decides its outcome: of two results and two contents of the lent buffer that it allows, each is the other.
use mathlib.Core.Path.{sym, ◌∙◌}
use Rattle.promise.specs.Determined.{Decided}
use Rattle.book.proofs.Answers.{answer_only}
use Rattle.change.proofs.add.Kinds as add-k
use Rattle.change.proofs.add.Reads as add
use Rattle.change.proofs.withdraw.Kinds as withdraw-k
use Rattle.change.proofs.withdraw.Reads as withdraw

-- the lent buffer: what is left in it is `ws.0`
pub add_decided : Decided 2 add-k.ps add-k.r add.Pre add.Post
add_decided = record { always = λ κs a. tt; determined = λ κs a p z z' ws ws' q q'. (answer_only z z' (q.0 ∙ sym q'.0), λ i. ((q.1 ∙ sym q'.1) i, (tt, (tt, (tt, tt))))) }

pub withdraw_decided : Decided 2 withdraw-k.ps withdraw-k.r withdraw.Pre withdraw.Post
withdraw_decided = record { always = λ κs a. tt; determined = λ κs a p z z' ws ws' q q'. (answer_only z z' (q.0 ∙ sym q'.0), λ i. ((q.1 ∙ sym q'.1) i, (tt, (tt, tt)))) }
