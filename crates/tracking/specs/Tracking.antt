-- Minima and maxima of the six tracked slots.
use Rattle.std.specs.Prelude.{ℕ, Bool, cond, ◌||◌, List, [], ◌∷◌, ℤ, pos, get_or}
use Rattle.std.specs.Int.Signed.{lt_z}
use Rattle.address.specs.declared.WordAddr.{WordAddr}
use Rattle.tracking.specs.declared.Ends.{Ends}
use Rattle.address.specs.Addresses.{place_of}
use Rattle.address.specs.Slots.{off}

-- the value that a slot tracks, of the seven registers that can be: that of the word it names; of a slot that is off, 0
unfoldable pub tracked : WordAddr → List ℤ → ℤ
tracked w seven = get_or seven (place_of w) (pos 0)

-- at the first closed interval its value, then the one that lies further out, of it and what was before
unfoldable pub further : Bool → Bool → ℤ → ℤ → ℤ
further first beyond now old = cond (first || beyond) now old

-- the minimum and the maximum, compared as signed numbers
unfoldable pub lowest : Bool → ℤ → ℤ → ℤ
lowest first now old = further first (lt_z now old) now old

unfoldable pub highest : Bool → ℤ → ℤ → ℤ
highest first now old = further first (lt_z old now) now old

-- for each of the six slots, from 0
abbrev pub slots : (ℕ → ℤ) → List ℤ
slots f = f 0 ∷ f 1 ∷ f 2 ∷ f 3 ∷ f 4 ∷ f 5 ∷ []

unfoldable pub followed : Bool → List WordAddr → List ℤ → Ends → Ends
followed first track seven old = record {
  low = slots (λ k. lowest first (tracked (get_or track k off) seven) (get_or old.low k (pos 0)));
  high = slots (λ k. highest first (tracked (get_or track k off) seven) (get_or old.high k (pos 0)));
}
