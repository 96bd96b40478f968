-- Laws of a number that is typed.
use Prim.Native.Nat.{ℕ, ◌+◌, ◌-◌, ◌*◌, ◌≤◌, ◌<◌}
use mathlib.Core.Path.{◌≡◌, refl, sym, ap, ◌∙◌}
use mathlib.Core.Bool.{Bool, true, false}
use mathlib.Core.List.{List, [], ◌∷◌}
use native.Mathlib.Numerals.{add-one}
use native.Mathlib.Omega.{arith}
use lib.Dec.{leb}
use lib.ListN.{length, get_or, take, drop, length-drop}
use lib.Seq.{take_all}
use borrow.Author.Tests.{leb-true, leb-false, le-leb, lt-leb}
use Rattle.typed.specs.Values.{numeral, held}

-- ---- a number that is held at its bound
pub held_small : (v : ℕ) → v ≤ 100000000 → held v ≡ v
unfolding held
held_small v l = simp (le-leb v 100000000 l)

pub held_large : (v : ℕ) → 100000000 < v → held v ≡ 100000000
unfolding held
held_large v l = simp (lt-leb v 100000000 l)

-- one digit more
pub held_more : (v d : ℕ) → held (10 * held v + d) ≡ held (10 * v + d)
held_more v d = by (leb v 100000000) refl
  where
    by : (t : Bool) → leb v 100000000 ≡ t → held (10 * held v + d) ≡ held (10 * v + d)
    by true e = ap (λ (n : ℕ). held (10 * n + d)) (held_small v (leb-true _ _ e))
    by false e =
        let l = leb-false v 100000000 e in
        ap (λ (n : ℕ). held (10 * n + d)) (held_large v l)
        ∙ held_large (10 * 100000000 + d) (omega arith)
        ∙ sym (held_large (10 * v + d) (omega arith))

pub numeral_more : (t : List ℕ) (k : ℕ) → numeral t (k + 1) ≡ 10 * numeral t k + (get_or t k 0 - 48)
unfolding numeral
numeral_more t k = rw add-one refl

-- ---- what stands behind a first byte
pub begun : (w : List ℕ) → get_or w 0 0 ≡ 45 → 1 ≤ length w
begun [] e = omega (arith, e)
begun (a ∷ w) e = omega arith

pub behind : (w : List ℕ) → take (length w - 1) (drop 1 w) ≡ drop 1 w
behind w = take_all (length w - 1) (drop 1 w) (simp length-drop (omega arith))
