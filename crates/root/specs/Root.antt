-- The square root, rounded down: the largest number whose square is at most x.
use Rattle.std.specs.Prelude.{ℕ, zero, suc, ◌+◌, ◌*◌, ◌/◌, ◌≤◌, ◌<◌, ◌≡◌, cond, eqb, leb}

-- what it is for r to be the root of x rounded down: r·r ≤ x < (r + 1)·(r + 1)
pub record Root (x r : ℕ) : Type 0 where
  pub low : r * r ≤ x
  pub high : x < (r + 1) * (r + 1)

-- worked out: the root of 0 is 0; any other is twice the root of a quarter of x, or one more where the square of that is still at most x
-- (`turns` is only there for the recursion to end: a number is 0 before it was quartered as many times as it is large)
unfoldable pub root_by : ℕ → ℕ → ℕ
root_by zero x = 0
root_by (suc turns) x = cond (eqb x 0) 0 (let r = 2 * root_by turns (x / 4) in cond (leb ((r + 1) * (r + 1)) x) (r + 1) r)

-- the root of any number, rounded down
unfoldable pub root_of : ℕ → ℕ
root_of x = root_by x x

-- that a function gives every number its root, and that a number has no other (`proofs/Roots.antt` shows it of `root_of`)
pub record Roots (f : ℕ → ℕ) : Type 0 where
  pub is : (x : ℕ) → Root x (f x)
  pub only : (x r : ℕ) → Root x r → r ≡ f x
