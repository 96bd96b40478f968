-- The row of the table that `register_of` gives, or the refusal of an address that has none.
use Prim.Native.Nat.{ℕ, ◌<◌, ◌≤◌}
use mathlib.Core.Path.{◌≡◌, sym, ◌∙◌}
use Rattle.std.specs.Prelude.{Option, Some, None, Ok, Err}
use Rattle.std.specs.Option.{ok_or}
use Rattle.address.specs.Addresses.{row_in}
use Rattle.address.proofs.Rows.{row_there, row_missing}
use Rattle.refusal.specs.declared.Refusal.{Refusal}

pub row_found : (n p k : ℕ) (r : Refusal) (o : Option ℕ) → o ≡ row_in n p → ok_or o r ≡ Ok k → (p ≡ k) × (k < n)
row_found n p k r None e h = absurd cc
row_found n p k r (Some x) e h = let s : x ≡ k = cc in row_there n p k (sym e ∙ cc)

pub no_row : (n p : ℕ) (r q : Refusal) (o : Option ℕ) → o ≡ row_in n p → ok_or o r ≡ Err q → (n ≤ p) × (q ≡ r)
no_row n p r q None e h = (row_missing n p (sym e), cc)
no_row n p r q (Some x) e h = absurd cc
