-- Parts of a list by their place, a list put over another at a place, and a list made from a rule.
use Rattle.std.specs.Prelude.{ℕ, zero, suc, ◌+◌, cond, List, [], ◌∷◌, ◌++◌, leb, length, take, drop}

-- n bytes of b, from at on
unfoldable pub part : List ℕ → ℕ → ℕ → List ℕ
part b at n = take n (drop at b)

-- b with xs at a place, over what stood there
unfoldable pub put : List ℕ → ℕ → List ℕ → List ℕ
put b at xs = take at b ++ xs ++ drop (at + length xs) b

-- the same where there is room for it, and else b as it was
unfoldable pub put_within : List ℕ → ℕ → List ℕ → List ℕ
put_within b at xs = cond (leb (at + length xs) (length b)) (put b at xs) b

-- p 0, p 1, and so on, n of them
unfoldable pub tab : {A : Type 0} → (ℕ → A) → ℕ → List A
tab p zero = []
tab p (suc n) = tab p n ++ (p n ∷ [])
