-- Document 01's numbers: what a part answers. A refusal gives its number and otherwise zero.
use Rattle.std.specs.Prelude.{ℕ, Bool, true, false, Result, Ok, Err}
use Rattle.refusal.specs.declared.Refusal.{Refusal}
use Rattle.refusal.specs.Numbers.{number_of}

-- the number of the refusal, 0 where nothing is refused, and the value
pub record Answer : Type 0 where
  pub number : ℕ
  pub value : ℕ

abbrev pub accepted : ℕ → Answer
accepted n = record { number = 0; value = n }

abbrev pub refused : ℕ → Answer
refused r = record { number = r; value = 0 }

-- the refusal r where a test fails, and else what follows
abbrev pub ask : Bool → ℕ → Answer → Answer
ask true r a = a
ask false r a = refused r

-- document 01's number for each answer of the code
abbrev pub answer_of : Result ℕ Refusal → Answer
answer_of (Ok n) = accepted n
answer_of (Err r) = refused (number_of r)
