-- An answer, or the number that says no (document 01, "Numbers that say no").
use Rattle.std.specs.Prelude.{ℕ, Result, Ok, Err}
use Rattle.refusal.specs.declared.Refusal.{Refusal}
use Rattle.refusal.specs.Numbers.{number_of}

pub data OrRefusal (A : Type 0) : Type 0 where
  refused : ℕ → OrRefusal A
  accepted : A → OrRefusal A

-- A refusal stays the same refusal; an answer is worked on.
abbrev pub and_then : {A B : Type 0} → OrRefusal A → (A → B) → OrRefusal B
and_then (refused n) f = refused n
and_then (accepted a) f = accepted (f a)

-- the answer, or where it is a refusal what was there before
abbrev pub or_as_before : {A : Type 0} → OrRefusal A → A → A
or_as_before (refused n) a = a
or_as_before (accepted b) a = b

-- document 01's number for each answer of the code
abbrev pub answer_of : {A : Type 0} → Result A Refusal → OrRefusal A
answer_of (Ok a) = accepted a
answer_of (Err r) = refused (number_of r)
