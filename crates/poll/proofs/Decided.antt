-- The public contract decides its outcome: of two results and two contents of the lent buffer that it allows, each is the other.
use mathlib.Core.Path.{sym, ◌∙◌}
use Rattle.promise.specs.Determined.{Decided}
use Rattle.poll.proofs.answer.Kinds as answer-k
use Rattle.poll.proofs.answer.Reads as answer

-- the lent buffer stands third
pub answer_decided : Decided 2 answer-k.ps answer-k.r answer.Pre answer.Post
answer_decided = record { always = λ κs a. tt; determined = λ κs a p z z' ws ws' q q'. (q.0 ∙ sym q'.0, λ i. (tt, (tt, ((q.1 ∙ sym q'.1) i, tt)))) }
