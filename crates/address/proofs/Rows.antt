-- A row of a table, or none: what each says of the place.
use Rattle.std.proofs.Common.{ℕ, ◌<◌, ◌≤◌, ◌≡◌, refl, Bool, true, false, cond, ltb, Some, None}
use Rattle.std.proofs.lemmas.Bool.{ltb-true, ltb-false}
use Rattle.address.specs.Addresses.{row_in}

-- the row that there is is the place itself, and lies in the table
pub row_there : (n p k : ℕ) → row_in n p ≡ Some k → (p ≡ k) × (k < n)
row_there n p k = by (ltb p n) refl
  where
    by : (t : Bool) → ltb p n ≡ t → cond t (Some p) None ≡ Some k → (p ≡ k) × (k < n)
    by true h e = let same : p ≡ k = cc in (same, rw (← same) (ltb-true p n h))
    by false h e = absurd cc

-- where there is none, the place lies behind the table
pub row_missing : (n p : ℕ) → row_in n p ≡ None → n ≤ p
row_missing n p = by (ltb p n) refl
  where
    by : (t : Bool) → ltb p n ≡ t → cond t (Some p) None ≡ None → n ≤ p
    by true h e = absurd cc
    by false h e = ltb-false p n h
