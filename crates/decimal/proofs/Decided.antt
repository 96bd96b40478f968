-- Each public contract decides its outcome: of two results that it allows, each is the other.
use Prim.Native.Nat.{ℕ}
use mathlib.Core.Path.{refl, sym, ◌∙◌}
use mathlib.Core.List.{List}
use Rattle.promise.specs.Determined.{Decided, DecidedBy}
use Rattle.decimal.proofs.Text.text.Kinds as text-k
use Rattle.decimal.proofs.Text.text.Reads as text
use Rattle.decimal.proofs.number_text.Kinds as number-text-k
use Rattle.decimal.proofs.number_text.Reads as number-text

pub number_text_decided : Decided 0 number-text-k.ps number-text-k.r number-text.Pre number-text.Post
number_text_decided = record { always = λ κs a. tt; determined = λ κs a p z z' ws ws' q q'. (q ∙ sym q', refl) }

-- a part of the lent text: its place and its contents. Of what a reference is in the logic only its ghost name is left open, which no run has
pub text_decided : DecidedBy 1 text-k.ps text-k.r ((ℕ × ℕ) × List ℕ) (λ κs z. (z.ref_ptr, z.now)) text.Pre text.Post
text_decided = record { always = λ κs a. tt; determined = λ κs a p z z' ws ws' q q'. ((λ i. (((q.1.0 ∙ sym q'.1.0) i, (q.1.1 ∙ sym q'.1.1) i), (q.0 ∙ sym q'.0) i)), refl) }
