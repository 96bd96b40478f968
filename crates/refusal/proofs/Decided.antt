-- The public contract decides its outcome: of two results and two contents of the lent buffer that it allows, each is the other.
use Rattle.std.specs.Prelude.{ℕ, List}
use mathlib.Core.Path.{refl, sym, ◌∙◌}
use Rattle.promise.specs.Determined.{Decided, DecidedBy}
use Rattle.refusal.proofs.Refusal.number.Kinds as number-k
use Rattle.refusal.proofs.Refusal.number.Reads as number
use Rattle.refusal.proofs.Refusal.of_number.Kinds as of-number-k
use Rattle.refusal.proofs.Refusal.of_number.Reads as of-number
use Rattle.refusal.proofs.Refusal.words.Kinds as refusal-words-k
use Rattle.refusal.proofs.Refusal.words.Reads as refusal-words
use Rattle.refusal.proofs.words.Kinds as words-k
use Rattle.refusal.proofs.words.Reads as words

pub number_decided : Decided 0 number-k.ps number-k.r number.Pre number.Post
number_decided = record { always = λ κs a. tt; determined = λ κs a p z z' ws ws' q q'. (q ∙ sym q', refl) }

pub of_number_decided : Decided 0 of-number-k.ps of-number-k.r of-number.Pre of-number.Post
of_number_decided = record { always = λ κs a. tt; determined = λ κs a p z z' ws ws' q q'. (q ∙ sym q', refl) }

-- of a text that is lent for good, what it says
pub refusal_words_decided : DecidedBy 1 refusal-words-k.ps refusal-words-k.r (List ℕ) (λ κs z. z.now) refusal-words.Pre refusal-words.Post
refusal_words_decided = record { always = λ κs a. tt; determined = λ κs a p z z' ws ws' q q'. (q ∙ sym q', refl) }

pub words_decided : Decided 1 words-k.ps words-k.r words.Pre words.Post
words_decided = record { always = λ κs a. tt; determined = λ κs a p z z' ws ws' q q'. (q.0 ∙ sym q'.0, λ i. (tt, ((q.1 ∙ sym q'.1) i, tt))) }
