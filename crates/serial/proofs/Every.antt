-- Laws of tests over every number below a bound, and of the first that passes. Each loop that tests or searches cites these.
use Prim.Native.Nat.{ℕ, zero, suc, ◌+◌, ◌≤◌, ◌<◌}
use mathlib.Core.Path.{◌≡◌, refl, sym, ap, ◌∙◌}
use mathlib.Core.Bool.{Bool, true, false, cond, not, ◌&&◌, and-true, and-false, false≢true}
use mathlib.Core.Logic.{⊎_elim}
use mathlib.Core.List.{List, [], ◌∷◌}
use Rattle.std.specs.List.{list_all}
use lib.ListN.{length, get_or}
use native.Mathlib.Nat.{le_of_suc-le-suc, not-suc-le-zero, eq-or-lt_of_le}
use native.Mathlib.Numerals.{add-one}
use native.Mathlib.Omega.{arith}
use lib.Dec.{ltb}
use borrow.Author.Tests.{lt-ltb, le-ltb, ltb-true, ltb-false, not-true}
use Rattle.serial.specs.Every.{every, first}

-- ---- truth values
pub and_left : (a b : Bool) → (a && b) ≡ true → a ≡ true
and_left true b e = refl
and_left false b e = e

pub and_right : (a b : Bool) → (a && b) ≡ true → b ≡ true
and_right true b e = e
and_right false b e = absurd (false≢true e)

pub both : {a b : Bool} → a ≡ true → b ≡ true → (a && b) ≡ true
both {a} {b} p q = rw p q

-- ---- every
pub every_none : (p : ℕ → Bool) → every p 0 ≡ true
unfolding every
every_none p = refl

-- one turn of a loop that gathers the tests
pub every_step : (p : ℕ → Bool) (n : ℕ) → every p (n + 1) ≡ (every p n && p n)
unfolding every
every_step p n = rw add-one refl

-- the same where a test stands before the loop
pub gather_none : (t : Bool) (p : ℕ → Bool) → t ≡ (t && every p 0)
unfolding every
gather_none t p = sym (and-true t)

pub gather_step : (t : Bool) (p : ℕ → Bool) (n : ℕ) → ((t && every p n) && p n) ≡ (t && every p (n + 1))
gather_step true p n = sym (every_step p n)
gather_step false p n = refl

pub every_more : (p : ℕ → Bool) (n : ℕ) → every p n ≡ true → p n ≡ true → every p (n + 1) ≡ true
unfolding every
every_more p n a h = rw add-one (both a h)

pub every_at : (p : ℕ → Bool) (n : ℕ) → every p n ≡ true → (k : ℕ) → k < n → p k ≡ true
unfolding every
every_at p zero a k l = absurd (not-suc-le-zero l)
every_at p (suc n) a k l =
    ⊎_elim (λ e. rw e (and_right (every p n) (p n) a)) (λ lt. every_at p n (and_left (every p n) (p n) a) k lt) (eq-or-lt_of_le (le_of_suc-le-suc l))

pub every_fails : (p : ℕ → Bool) (n k : ℕ) → k < n → p k ≡ false → every p n ≡ false
unfolding every
every_fails p zero k l e = absurd (not-suc-le-zero l)
every_fails p (suc n) k l e =
    ⊎_elim (λ q. rw (← q, e) (and-false (every p k))) (λ lt. rw (every_fails p n k lt e) refl) (eq-or-lt_of_le (le_of_suc-le-suc l))

pub every_from : (p : ℕ → Bool) (n : ℕ) → ((k : ℕ) → k < n → p k ≡ true) → every p n ≡ true
unfolding every
every_from p zero h = refl
every_from p (suc n) h = both (every_from p n (λ k l. h k (omega arith))) (h n (omega arith))

pub every_same : (p q : ℕ → Bool) (n : ℕ) → ((k : ℕ) → k < n → p k ≡ q k) → every p n ≡ every q n
unfolding every
every_same p q zero h = refl
every_same p q (suc n) h = rw (every_same p q n (λ k l. h k (omega arith)), h n (omega arith))

-- from the first on, where a list is tested head by head
pub every_front : (p : ℕ → Bool) (n : ℕ) → every p (suc n) ≡ (p 0 && every (λ (k : ℕ). p (suc k)) n)
unfolding every
every_front p zero = sym (and-true (p 0))
every_front p (suc n) = rw (every_front p n) (regroup (p 0) (every (λ (k : ℕ). p (suc k)) n) (p (suc n)))
  where
    regroup : (a b c : Bool) → ((a && b) && c) ≡ (a && (b && c))
    regroup true b c = refl
    regroup false b c = refl

-- a test of each element of a list, as `all` makes it
pub every_of_list : {A : Type 0} (test : A → Bool) (d : A) (xs : List A) → list_all test xs ≡ every (λ (k : ℕ). test (get_or xs k d)) (length xs)
unfolding every
every_of_list test d [] = refl
every_of_list test d (x ∷ xs) = ap (λ (b : Bool). test x && b) (every_of_list test d xs) ∙ sym (every_front (λ (k : ℕ). test (get_or (x ∷ xs) k d)) (length xs))

-- ---- first
pub first_none : (p : ℕ → Bool) (n : ℕ) → every (λ (k : ℕ). not (p k)) n ≡ true → first p n ≡ n
unfolding every first
first_none p zero a = refl
first_none p (suc n) a =
    let i : first p n ≡ n = first_none p n (and_left (every (λ (k : ℕ). not (p k)) n) (not (p n)) a) in
    let q : p n ≡ false = not-true (p n) (and_right (every (λ (k : ℕ). not (p k)) n) (not (p n)) a) in
    rw (i, le-ltb n n (omega arith), q) refl

here : (p : ℕ → Bool) (n k : ℕ) → k ≡ n → every (λ (i : ℕ). not (p i)) k ≡ true → p k ≡ true → first p (suc n) ≡ k
unfolding first
here p n k q a e =
    let e' : p n ≡ true = rw q at e in
    rw (q, first_none p n (rw q at a), le-ltb n n (omega arith), e') refl

pub first_at : (p : ℕ → Bool) (n k : ℕ) → k < n → every (λ (i : ℕ). not (p i)) k ≡ true → p k ≡ true → first p n ≡ k
unfolding every first
first_at p zero k l a e = absurd (not-suc-le-zero l)
first_at p (suc n) k l a e =
    ⊎_elim (λ q. here p n k q a e)
    (λ lt. rw (first_at p n k lt a e, lt-ltb k n) refl)
    (eq-or-lt_of_le (le_of_suc-le-suc l))

pub first_same : (p q : ℕ → Bool) (n : ℕ) → ((k : ℕ) → k < n → p k ≡ q k) → first p n ≡ first q n
unfolding first
first_same p q zero h = refl
first_same p q (suc n) h = rw (first_same p q n (λ k l. h k (omega arith)), h n (omega arith))

pub first_suc : (p : ℕ → Bool) (n : ℕ) → p n ≡ false → first p (suc n) ≡ cond (ltb (first p n) n) (first p n) (suc n)
unfolding first
first_suc p n e = rw e refl

-- none was found, so none passes
pub first_all : (p : ℕ → Bool) (n : ℕ) → n ≤ first p n → every (λ (k : ℕ). not (p k)) n ≡ true
unfolding first every
first_all p zero l = refl
first_all p (suc n) l = by (λ h. first_all p n h) (ltb (first p n) n) refl (p n) refl l
  where
    by : (n ≤ first p n → every (λ (k : ℕ). not (p k)) n ≡ true) → (t : Bool) → ltb (first p n) n ≡ t → (u : Bool) → p n ≡ u → suc n ≤ cond t (first p n) (cond u n (suc n)) → every (λ (k : ℕ). not (p k)) n && not (p n) ≡ true
    by g true e u e' h = absurd (omega (arith, ltb-true (first p n) n e))
    by g false e true e' h = absurd (omega arith)
    by g false e false e' h = both (g (ltb-false _ _ e)) (ap not e')

-- what was found passes
pub first_passes : (p : ℕ → Bool) (n : ℕ) → first p n < n → p (first p n) ≡ true
unfolding first
first_passes p zero l = absurd (not-suc-le-zero l)
first_passes p (suc n) l = by (λ h. first_passes p n h) (ltb (first p n) n) refl (p n) refl l
  where
    by : (first p n < n → p (first p n) ≡ true) → (t : Bool) → ltb (first p n) n ≡ t → (u : Bool) → p n ≡ u → cond t (first p n) (cond u n (suc n)) < suc n → p (cond t (first p n) (cond u n (suc n))) ≡ true
    by g true e u e' h = g (ltb-true _ _ e)
    by g false e true e' h = e'
    by g false e false e' h = absurd (omega arith)
