-- What VRMS and IRMS are: the root of a mean square x, that is, r·r ≤ x < (r + 1)·(r + 1), and what is shown of it.
use Rattle.std.specs.Prelude.{ℕ, ◌<◌, ◌≤◌, ◌≡◌, ℤ, pos}
use Rattle.range.specs.Range.{capped}
use Rattle.root.specs.Root.{Root}

-- VRMS of the mean square x: its root rounded down, at most 8,388,607
pub record RootShown (x : ℕ) (shown : ℤ) : Type 0 where
  pub root : ℕ
  pub is : Root x root
  pub capped_is : shown ≡ pos (capped root)

-- IRMS of the mean square x, less IRMSOFFS squared: the same, then 0 if less than SQUELCH
pub record RootSquelched (x squelch : ℕ) (shown : ℤ) : Type 0 where
  pub root : ℕ
  pub is : Root x root
  pub less : capped root < squelch → shown ≡ pos 0
  pub not_less : squelch ≤ capped root → shown ≡ pos (capped root)
