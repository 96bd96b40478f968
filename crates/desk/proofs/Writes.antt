-- Laws of a field that is written.
use Prim.Native.Nat.{ℕ, zero, suc, ◌-◌}
use mathlib.Core.Path.{◌≡◌, refl, sym, ap, ◌∙◌}
use mathlib.Core.Bool.{Bool, true, false, ◌&&◌, and-true, true≢false}
use mathlib.Core.List.{List, [], ◌∷◌}
use Rattle.std.specs.List.{list_all}
use lib.ListN.{length, get_or}
use lib.Dec.{leb}
use lib.IntN.{ℤ, pos, negsuc, nat_abs}
use mir.Syntax.{w32}
use mir.Val.{SFits}
use borrow.Author.Tests.{leb-true, le-ltb}
use Rattle.serial.specs.Every.{every}
use Rattle.serial.proofs.Every.{and_left, and_right}
use Rattle.card.specs.Fields.{is_field, fits_field, field_in_range}
use Rattle.card.proofs.Fields.{Placed, placed, value_fits}

-- its number less one is its place
pub field_placed : (f : ℤ) → is_field f ≡ true → Placed f
unfolding is_field
field_placed (pos n) h =
    placed (pos n) (le-ltb n 1 (leb-true 1 n (and_left (leb 1 n) (leb n 8) h))) (le-ltb 8 n (leb-true n 8 (and_right (leb 1 n) (leb n 8) h)))
field_placed (negsuc n) h = absurd (true≢false (sym h))

-- its value fits
pub written_fits : (f v : ℤ) → is_field f ≡ true → field_in_range f v ≡ true → SFits w32 v
unfolding field_in_range
written_fits f v i h = value_fits (nat_abs f - 1) v (field_placed f i).one (and_right (is_field f) (fits_field (nat_abs f - 1) v) h)

-- ---- each of the eight written: the list tested head by head
regroup : (a b c : Bool) → ((a && b) && c) ≡ (a && (b && c))
regroup true b c = refl
regroup false b c = refl

every_front : (p : ℕ → Bool) (n : ℕ) → every p (suc n) ≡ (p 0 && every (λ (k : ℕ). p (suc k)) n)
unfolding every
every_front p zero = sym (and-true (p 0))
every_front p (suc n) = rw (every_front p n) (regroup (p 0) (every (λ (k : ℕ). p (suc k)) n) (p (suc n)))

pub every_of_list : {A : Type 0} (test : A → Bool) (d : A) (xs : List A) → list_all test xs ≡ every (λ (k : ℕ). test (get_or xs k d)) (length xs)
unfolding every
every_of_list test d [] = refl
every_of_list test d (x ∷ xs) = ap (λ (b : Bool). test x && b) (every_of_list test d xs) ∙ sym (every_front (λ (k : ℕ). test (get_or (x ∷ xs) k d)) (length xs))
