-- Laws of a number's digits: the last one and those before it, and how many there are.
use Prim.Native.Nat.{ℕ, zero, suc, ◌+◌, ◌-◌, ◌*◌, ◌/◌, ◌%◌, ◌≤◌, ◌<◌}
use mathlib.Core.Path.{◌≡◌, ap, ◌∙◌}
use mathlib.Core.Bool.{Bool, true, false, not, cond}
use mathlib.Core.List.{List, [], ◌∷◌, ◌++◌}
use native.Mathlib.Omega.{arith}
use lib.IntN.{ℤ, pos, negsuc, nat_abs}
use lib.ListN.{length, length-append}
use lib.Dec.{T, ltb, ltb→lt, nltb→le}
use borrow.Author.Tests.{lt-ltb, le-ltb}
use Rattle.decimal.specs.Decimals.{digits, decimal, signed_decimal}

-- more digits than a number has change nothing
digits_enough : (k j n : ℕ) → n ≤ k → n ≤ j → digits (suc k) n ≡ digits (suc j) n
unfolding digits
digits_enough zero j n l m = simp (lt-ltb n 10 (omega arith))
digits_enough (suc k) zero n l m = simp (lt-ltb n 10 (omega arith))
digits_enough (suc k) (suc j) n l m = ap (λ (r : List ℕ). cond (ltb n 10) ((48 + n) ∷ []) (r ++ ((48 + n % 10) ∷ []))) (digits_enough k j (n / 10) (omega arith) (omega arith))

pub one_digit : (n : ℕ) → n < 10 → decimal n ≡ (48 + n % 10) ∷ []
unfolding decimal digits
one_digit n l = let e : n % 10 ≡ n = omega arith in rw e (simp (lt-ltb n 10 l))

pub last_digit : (n : ℕ) → 10 ≤ n → decimal n ≡ decimal (n / 10) ++ ((48 + n % 10) ∷ [])
unfolding decimal digits
last_digit n h =
    let e : n ≡ suc (n - 1) = omega arith in
    simp (le-ltb n 10 h)
    (ap (λ (r : List ℕ). r ++ ((48 + n % 10) ∷ [])) (ap (λ (k : ℕ). digits k (n / 10)) e ∙ digits_enough (n - 1) (n / 10) (n / 10) (omega arith) (omega arith)))

-- ---- how many there are
-- at least one
pub some : (n : ℕ) → 1 ≤ length (decimal n)
some n = go (ltb n 10) (ltb→lt n 10) (nltb→le n 10)
  where
    go : (t : Bool) → (T t → n < 10) → (T (not t) → 10 ≤ n) → 1 ≤ length (decimal n)
    go true f g = rw (one_digit n (f tt)) (omega arith)
    go false f g = rw (last_digit n (g tt), length-append) (omega arith)

-- a number of at most k digits is below limit k, which is 10^k
unfoldable pub limit : ℕ → ℕ
limit zero = 1
limit (suc k) = 10 * limit k

pub at_most : (k n : ℕ) → n < limit (suc k) → length (decimal n) ≤ suc k
unfolding limit
at_most zero n l = rw (one_digit n (omega arith)) (omega arith)
at_most (suc k) n l = go (ltb n 10) (ltb→lt n 10) (nltb→le n 10) (λ h. at_most k (n / 10) (omega arith))
  where
    go : (t : Bool) → (T t → n < 10) → (T (not t) → 10 ≤ n) → (10 ≤ n → length (decimal (n / 10)) ≤ suc k) → length (decimal n) ≤ suc (suc k)
    go true f g h = rw (one_digit n (f tt)) (omega arith)
    go false f g h = rw (last_digit n (g tt), length-append) (omega (arith, h (g tt)))

-- with the sign one more
pub signed_at_most : (k : ℕ) (v : ℤ) → nat_abs v < limit (suc k) → length (signed_decimal v) ≤ suc (suc k)
unfolding signed_decimal
signed_at_most k (pos n) l = omega (arith, at_most k n l)
signed_at_most k (negsuc n) l = omega (arith, at_most k (suc n) l)
