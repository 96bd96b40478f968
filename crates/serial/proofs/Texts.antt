-- The library's `==` on two texts is the definition's.
use Prim.Native.Nat.{ℕ}
use mathlib.Core.Path.{◌≡◌, refl, sym, ap, ◌∙◌}
use mathlib.Core.Bool.{Bool, true, false, ◌&&◌}
use mathlib.Core.List.{List, [], ◌∷◌}
use lib.Dec.{eqb, eqb-suc-suc, eqb-suc-zero, eqb-zero-suc}
use lib.ListN.{length, get_or}
use Rattle.std.specs.Cmp.Lexicographic.{pointwise}
use Rattle.serial.specs.Every.{every}
use Rattle.serial.specs.Texts.{same_text}
use Rattle.serial.proofs.Every.{every_front}

pub same_is : (a b : List ℕ) → pointwise eqb a b ≡ same_text a b
unfolding same_text every
same_is [] [] = refl
same_is [] (y ∷ b) = rw (eqb-zero-suc (length b))
same_is (x ∷ a) [] = rw (eqb-suc-zero (length a))
same_is (x ∷ a) (y ∷ b) =
    rw (eqb-suc-suc (length a) (length b))
    (ap (λ (t : Bool). eqb x y && t) (same_is a b)
    ∙ swap (eqb x y) (eqb (length a) (length b)) (every (λ (k : ℕ). eqb (get_or a k 0) (get_or b k 0)) (length a))
    ∙ ap (λ (t : Bool). eqb (length a) (length b) && t) (sym (every_front (λ (k : ℕ). eqb (get_or (x ∷ a) k 0) (get_or (y ∷ b) k 0)) (length a))))
  where
    swap : (p q r : Bool) → (p && (q && r)) ≡ (q && (p && r))
    swap true q r = refl
    swap false true r = refl
    swap false false r = refl
