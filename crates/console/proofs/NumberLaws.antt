-- Digits, one by one; and a worth that is too high stays too high.
use Prim.Native.Nat.{ℕ, ◌+◌, ◌*◌, ◌^◌, ◌≤◌, ◌<◌}
use mathlib.Core.Path.{◌≡◌, refl, sym, ap, ◌∙◌}
use mathlib.Core.Bool.{Bool, true, false, cond}
use mathlib.Core.List.{List, [], ◌∷◌}
use Rattle.std.specs.Prelude.{Option, Some, None}
use Rattle.std.specs.Bool.{then_some}
use native.Mathlib.Nat.{mul-le-mul_left}
use native.Mathlib.Numerals.{add-one}
use native.Mathlib.Omega.{arith}
use lib.Dec.{ltb}
use lib.ListN.{length, drop, get_or, drop_of_length-le}
use lib.Seq.{drop-cons}
use borrow.Author.Tests.{lt-ltb, le-ltb, lt-leb}
use Rattle.console.specs.Numbers.{digit_of, at_digit, worth_behind, up_to, digits_of}

-- ---- digits
module _ (b a : ℕ) (t : List ℕ) (k : ℕ) (h : k < length t) where
  turn : worth_behind b a (drop k t) ≡ at_digit b (digit_of (get_or t k 0)) (λ d. worth_behind b (a * b + d) (drop (k + 1) t))
  unfolding worth_behind
  turn = rw (drop-cons t k 0, add-one) refl

  pub one_more : (d : ℕ) → digit_of (get_or t k 0) ≡ Some d → d < b → worth_behind b (a * b + d) (drop (k + 1) t) ≡ worth_behind b a (drop k t)
  one_more d e l = rw (turn, e, lt-ltb d b l) refl

  pub no_digit : digit_of (get_or t k 0) ≡ None → worth_behind b a (drop k t) ≡ None
  no_digit e = rw (turn, e) refl

  pub high_digit : (d : ℕ) → digit_of (get_or t k 0) ≡ Some d → b ≤ d → worth_behind b a (drop k t) ≡ None
  high_digit d e l = rw (turn, e, le-ltb d b l) refl

pub no_more : (b a : ℕ) (t : List ℕ) (k : ℕ) → length t ≤ k → worth_behind b a (drop k t) ≡ Some a
unfolding worth_behind
no_more b a t k h = rw (drop_of_length-le t) refl

pub too_high : (b a : ℕ) (t : List ℕ) → 0 < b → 2 ^ 63 < a → up_to (2 ^ 63) (worth_behind b a t) ≡ None
unfolding worth_behind
too_high b a [] p h = rw (lt-leb a (2 ^ 63) h) refl
too_high b a (c ∷ cs) p h = by (digit_of c) (λ (d : ℕ). too_high b (a * b + d) cs p (omega (arith, mul-le-mul_left a p)))
  where
    by : (o : Option ℕ) → ((d : ℕ) → up_to (2 ^ 63) (worth_behind b (a * b + d) cs) ≡ None) → up_to (2 ^ 63) (at_digit b o (λ d. worth_behind b (a * b + d) cs)) ≡ None
    by None f = refl
    by (Some d) f = go (ltb d b) (f d)
      where
        go : (t : Bool) → up_to (2 ^ 63) (worth_behind b (a * b + d) cs) ≡ None → up_to (2 ^ 63) (cond t (worth_behind b (a * b + d) cs) None) ≡ None
        go true e = e
        go false e = refl

-- a digit more, and the whole is worth too much
pub one_too_many : (b a d : ℕ) (t : List ℕ) (k : ℕ) → k < length t → digit_of (get_or t k 0) ≡ Some d → d < b → 2 ^ 63 < a * b + d → None ≡ up_to (2 ^ 63) (worth_behind b a (drop k t))
one_too_many b a d t k h e l o =
    sym (too_high b (a * b + d) (drop (k + 1) t) (omega arith) o) ∙ ap (up_to (2 ^ 63)) (one_more b a t k h d e l)

-- ---- at least one digit
pub no_digits : (b : ℕ) (t : List ℕ) → length t ≡ 0 → digits_of b t ≡ None
unfolding digits_of
no_digits b [] h = refl
no_digits b (c ∷ cs) h = absurd (omega arith)

pub some_digits : (b : ℕ) (t : List ℕ) → (length t ≡ 0 → ⊥) → digits_of b t ≡ up_to (2 ^ 63) (worth_behind b 0 t)
unfolding digits_of
some_digits b [] h = absurd (h refl)
some_digits b (c ∷ cs) h = refl

-- ---- a test, as the code has it
pub then_some_is : {A : Type 0} (b : Bool) (x : A) → then_some b x ≡ cond b (Some x) None
then_some_is true x = refl
then_some_is false x = refl
