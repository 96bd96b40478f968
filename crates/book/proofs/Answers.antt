-- Laws of the code's answers: a refusal has a number, and two that say the same are the same.
use Prim.Native.Nat.{ℕ}
use mathlib.Core.Path.{◌≡◌, sym, ap, ◌∙◌}
use mathlib.Core.Bool.{false}
use lib.Dec.{eqb}
use borrow.Author.Tests.{ne_eqb}
use Rattle.std.specs.Prelude.{Option, Some, None, Result, Ok, Err}
use Rattle.refusal.specs.declared.Refusal.{Refusal}
use Rattle.refusal.specs.Numbers.{number_of, numbered}
use Rattle.refusal.proofs.Numbers.{numbered_back}
use Rattle.book.specs.Answers.{Answer, answer_of}

some_number : (r : Refusal) → number_of r ≡ 0 → ⊥
some_number r e = let h : numbered 0 ≡ Some r = ap numbered (sym e) ∙ numbered_back r in cc

pub refused_number : (r : Refusal) → eqb (number_of r) 0 ≡ false
refused_number r = ne_eqb _ _ (some_number r)

number_only : (r s : Refusal) → number_of r ≡ number_of s → r ≡ s
number_only r s e = let h : Some r ≡ Some s = sym (numbered_back r) ∙ ap numbered e ∙ numbered_back s in cc

pub answer_only : (a b : Result ℕ Refusal) → answer_of a ≡ answer_of b → a ≡ b
answer_only (Ok m) (Ok n) e = ap Ok (ap (λ (x : Answer). x.value) e)
answer_only (Ok m) (Err r) e = absurd (some_number r (sym (ap (λ (x : Answer). x.number) e)))
answer_only (Err r) (Ok n) e = absurd (some_number r (ap (λ (x : Answer). x.number) e))
answer_only (Err r) (Err s) e = ap Err (number_only r s (ap (λ (x : Answer). x.number) e))
