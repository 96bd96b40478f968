-- The places of the voltages, read from the oldest on, are the last w of all voltages, with zeros before the first.
use Prim.Native.Nat.{ℕ, zero, suc, ◌+◌, ◌-◌, ◌≤◌, ◌<◌}
use mathlib.Core.Path.{◌≡◌, refl, sym, ap, ap₂, ◌∙◌}
use mathlib.Core.Bool.{Bool, true, false, cond}
use mathlib.Core.List.{List, [], ◌∷◌, ◌++◌, append-nil, append_assoc}
use native.Mathlib.Omega.{arith}
use lib.Dec.{eqb, leb}
use lib.IntN.{ℤ, pos}
use lib.ListN.{length, take, drop, get_or, set, replicate, length-take, length-drop, length-append, length-replicate, drop_of_length-le}
use lib.Seq.{drop-cons, drop-append-le, drop-append-add, drop-drop, drop-set-lt, take-set-lt, take-suc-set, get_or-take}
use borrow.Author.Tests.{eqb-true, leb-true, leb-false}
use Rattle.number.specs.Sign.{square_of}
use Rattle.alarm.specs.Alarms.{next_place}
use Rattle.halfcycle.specs.Passing.{squares}
use Rattle.halfcycle.specs.History.{last_squares}

-- from the oldest on
abbrev pub in_turn : ℕ → ℕ → List ℤ → List ℤ
in_turn w at volts = drop at (take w volts) ++ take at volts

-- the last w, with zeros before the first
abbrev pub last_of : ℕ → List ℤ → List ℤ
last_of w vs = drop (length vs) (replicate w (pos 0) ++ vs)

module _ (w at : ℕ) (volts : List ℤ) (fits : w ≤ length volts) (less : at < w) where
  abbrev oldest : ℤ
  oldest = get_or volts at (pos 0)

  -- those behind the oldest
  abbrev rest : List ℤ
  rest = drop (suc at) (take w volts) ++ take at volts

  pub oldest_first : in_turn w at volts ≡ oldest ∷ rest
  oldest_first =
      ap (λ (l : List ℤ). l ++ take at volts)
      (drop-cons (take w volts) at (pos 0) (omega (arith, length-take w volts))
      ∙ ap (λ (z : ℤ). z ∷ drop (suc at) (take w volts)) (get_or-take w volts at (pos 0) less))

  pub newest_last : (v : ℤ) → in_turn w (next_place w at) (set volts at v) ≡ rest ++ (v ∷ [])
  unfolding next_place
  newest_last v = by (eqb (suc at) w) refl
    where
      taken : take (suc at) (set volts at v) ≡ take at volts ++ (v ∷ [])
      taken = take-suc-set volts at v (omega arith)

      by : (b : Bool) → eqb (suc at) w ≡ b → in_turn w (cond b 0 (suc at)) (set volts at v) ≡ rest ++ (v ∷ [])
      by true e =
          let n : suc at ≡ w = eqb-true (suc at) w e in
          let none : drop (suc at) (take w volts) ≡ [] = drop_of_length-le (take w volts) {i = suc at} (omega (arith, length-take w volts)) in
          append-nil (take w (set volts at v))
          ∙ ap (λ (k : ℕ). take k (set volts at v)) (sym n)
          ∙ taken
          ∙ ap (λ (l : List ℤ). (l ++ take at volts) ++ (v ∷ [])) (sym none)
      by false e =
          ap₂ ◌++◌ (ap (drop (suc at)) (take-set-lt w volts at v less) ∙ drop-set-lt (suc at) (take w volts) at v (omega arith)) taken
          ∙ sym (append_assoc (drop (suc at) (take w volts)) (take at volts) (v ∷ []))

-- ---- one voltage more among the last w

zeros_long : (w : ℕ) (vs : List ℤ) → length (replicate w (pos 0) ++ vs) ≡ w + length vs
zeros_long w vs = length-append (replicate w (pos 0)) vs ∙ ap (λ (k : ℕ). k + length vs) (length-replicate w (pos 0))

pub last_more : (w : ℕ) (vs : List ℤ) (v : ℤ) → 1 ≤ w → last_of w (vs ++ (v ∷ [])) ≡ drop 1 (last_of w vs) ++ (v ∷ [])
last_more w vs v h =
    let z = replicate w (pos 0) in
    let n = length vs in
    let all = z ++ vs in
    let long : length (vs ++ (v ∷ [])) ≡ n + 1 = length-append vs (v ∷ []) in
    ap (λ (k : ℕ). drop k (z ++ (vs ++ (v ∷ [])))) long
    ∙ ap (drop (n + 1)) (sym (append_assoc z vs (v ∷ [])))
    ∙ sym (drop-drop 1 n (all ++ (v ∷ [])))
    ∙ ap (drop 1) (drop-append-le n all (v ∷ []) (omega (arith, zeros_long w vs)))
    ∙ drop-append-le 1 (drop n all) (v ∷ []) (omega (arith, length-drop n all, zeros_long w vs))

-- ---- their squares

pub squares_append : (a b : List ℤ) → squares (a ++ b) ≡ squares a + squares b
unfolding squares
squares_append [] b = omega arith
squares_append (x ∷ a) b = omega (arith, squares_append a b)

pub squares_zeros : (w : ℕ) → squares (replicate w (pos 0)) ≡ 0
unfolding squares
squares_zeros zero = refl
squares_zeros (suc w) = omega (arith, squares_zeros w)

zeros_less : (n w : ℕ) → squares (drop n (replicate w (pos 0))) ≡ 0
unfolding squares
zeros_less zero w = squares_zeros w
zeros_less (suc n) zero = refl
zeros_less (suc n) (suc w) = zeros_less n w

pub squares_last : (w : ℕ) (vs : List ℤ) → squares (last_of w vs) ≡ last_squares w vs
squares_last w vs = by (leb (length vs) w) refl
  where
    by : (b : Bool) → leb (length vs) w ≡ b → squares (last_of w vs) ≡ last_squares w vs
    by true e =
        let z = replicate w (pos 0) in
        let l = leb-true (length vs) w e in
        let none : length vs - w ≡ 0 = omega (arith, l) in
        let all : drop (length vs - w) vs ≡ vs = ap (λ (k : ℕ). drop k vs) none in
        ap squares (drop-append-le (length vs) z vs (omega (arith, l, length-replicate w (pos 0))))
        ∙ squares_append (drop (length vs) z) vs
        ∙ omega (arith, zeros_less (length vs) w, ap squares all)
    by false e =
        let z = replicate w (pos 0) in
        let l = leb-false (length vs) w e in
        let k : length vs ≡ length z + (length vs - w) = omega (arith, l, length-replicate w (pos 0)) in
        ap squares (ap (λ (n : ℕ). drop n (z ++ vs)) k ∙ drop-append-add z vs (length vs - w))

pub squares_first : (l : List ℤ) (x : ℤ) (r : List ℤ) → l ≡ x ∷ r → squares l ≡ square_of x + squares r
unfolding squares
squares_first l x r e = ap squares e

pub squares_none : 0 + squares [] ≡ 0
unfolding squares
squares_none = refl
