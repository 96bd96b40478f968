-- Eight numbers put one after another at the front of a list.
use Prim.Native.Nat.{ℕ, suc, ◌+◌, ◌<◌}
use mathlib.Core.Path.{◌≡◌, sym, ◌∙◌}
use mathlib.Core.List.{List, [], ◌∷◌, ◌++◌, append_assoc}
use native.Mathlib.Numerals.{add-one}
use native.Mathlib.Omega.{arith}
use lib.ListN.{length, take, drop, get_or, set}
use lib.Seq.{take-suc, drop-cons, set_at, length-take-le}

-- one more of them
pub front_more : {A : Type 0} (xs old : List A) (d : A) (k : ℕ) → k < length xs → k < length old
    → set (take k xs ++ drop k old) k (get_or xs k d) ≡ take (k + 1) xs ++ drop (k + 1) old
front_more xs old d k l m =
    rw (add-one, drop-cons old k d m, take-suc xs k d l)
    (set_at (take k xs) (get_or old k d) (drop (suc k) old) (get_or xs k d) k (length-take-le k xs (omega arith))
    ∙ sym (append_assoc (take k xs) (get_or xs k d ∷ []) (drop (suc k) old)))
