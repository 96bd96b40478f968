-- Two answers of the code that say the same in document 01's numbers are the same.
use mathlib.Core.Path.{◌≡◌, ap}
use Rattle.std.specs.Prelude.{Result, Ok, Err}
use Rattle.std.specs.Result.{IsErrAnd}
use Rattle.refusal.specs.declared.Refusal.{Refusal}
use Rattle.refusal.specs.Numbers.{number_of}
use Rattle.refusal.proofs.Numbers.{same_number}
use Rattle.steps.specs.Answers.{refused, answer_of}

pub same_answer : {A : Type 0} (r q : Result A Refusal) → answer_of r ≡ answer_of q → r ≡ q
same_answer (Ok a) (Ok b) e = let s : a ≡ b = cc in cc
same_answer (Ok a) (Err r) e = cc
same_answer (Err r) (Ok a) e = cc
same_answer (Err r) (Err q) e = let n : number_of r ≡ number_of q = cc in ap Err (same_number r q n)

-- what `?` hands on is the refusal that it found
pub handed_on : {A : Type 0} (r : Result A Refusal) (e : Refusal) → IsErrAnd r (λ x. x ≡ e) → answer_of r ≡ refused (number_of e)
handed_on (Ok a) e h = absurd h
handed_on (Err x) e h = ap (λ (y : Refusal). refused (number_of y)) h
