-- Each public contract decides its outcome: of two results that it allows, each is the other.
use mathlib.Core.Path.{refl, sym, ◌∙◌}
use mathlib.Core.List.{List}
use Prim.Native.Nat.{ℕ}
use Rattle.promise.specs.Determined.{Decided, DecidedBy}
use Rattle.book.proofs.Answers.{answer_only}
use Rattle.lookup.proofs.lookup.Kinds as lookup-k
use Rattle.lookup.proofs.lookup.Reads as lookup
use Rattle.lookup.proofs.card_of.Kinds as card-of-k
use Rattle.lookup.proofs.card_of.Reads as card-of

pub lookup_decided : Decided 2 lookup-k.ps lookup-k.r lookup.Pre lookup.Post
lookup_decided = record { always = λ κs a. tt; determined = λ κs a p z z' ws ws' q q'. (answer_only z z' (q ∙ sym q'), refl) }

-- a part of the lent book: its place and its contents. Of what a reference is in the logic only its ghost name is left open, which no run has
pub card_of_decided : DecidedBy 2 card-of-k.ps card-of-k.r ((ℕ × ℕ) × List ℕ) (λ κs z. (z.ref_ptr, z.now)) card-of.Pre card-of.Post
card_of_decided = record { always = λ κs a. tt; determined = λ κs a p z z' ws ws' q q'. ((λ i. (((q.1 ∙ sym q'.1) i, (q.2 ∙ sym q'.2) i), (q.0 ∙ sym q'.0) i)), refl) }
