-- Laws of the register list: which part of it a place is in.
use Prim.Native.Nat.{ℕ, ◌+◌, ◌-◌, ◌<◌, ◌≤◌}
use mathlib.Core.Path.{◌≡◌, refl, ap, sym, ◌∙◌}
use mathlib.Core.List.{List, [], ◌∷◌, ◌++◌}
use native.Mathlib.Omega.{arith}
use lib.IntN.{ℤ, pos}
use lib.ListN.{get_or, length, get_or-append, length-append}
use lib.Seq.{get_or-append-add}
use Rattle.interval.specs.declared.Source.{Source}
use Rattle.interval.specs.declared.Registers.{Registers}
use Rattle.port.specs.Reading.{shown_of, registers}

-- past the first part of a list, and within it
past : (xs ys : List ℤ) (n k : ℕ) → length xs ≡ n → n ≤ k → get_or (xs ++ ys) k (pos 0) ≡ get_or ys (k - n) (pos 0)
past xs ys n k l h =
    let e : k ≡ length xs + (k - n) = omega arith in
    ap (λ (i : ℕ). get_or (xs ++ ys) i (pos 0)) e ∙ get_or-append-add xs ys (k - n) (pos 0)

within : (xs ys : List ℤ) (n k : ℕ) → length xs ≡ n → k < n → get_or (xs ++ ys) k (pos 0) ≡ get_or xs k (pos 0)
within xs ys n k l h = get_or-append xs ys (pos 0) k (omega arith)

-- past so many, and then some more
past_more : (zs : List ℤ) (m n k : ℕ) → get_or zs (k - m - n) (pos 0) ≡ get_or zs (k - (m + n)) (pos 0)
past_more zs m n k = let e : k - m - n ≡ k - (m + n) = omega arith in ap (λ (i : ℕ). get_or zs i (pos 0)) e

-- ---- the eight of a source
module _ (s : Source) (figures : length s.figures ≡ 6) where
  abbrev counts : List ℤ
  counts = pos s.plus.count ∷ pos s.minus.count ∷ []

  pub eight : length (shown_of s) ≡ 8
  unfolding shown_of
  eight = omega (arith, length-append s.figures counts)

  module _ (k : ℕ) where
    abbrev value : ℤ
    value = get_or (shown_of s) k (pos 0)

    pub at_figure : k < 6 → get_or s.figures k (pos 0) ≡ value
    unfolding shown_of
    at_figure h = sym (within s.figures counts 6 k figures h)

    past_figures : 6 ≤ k → value ≡ get_or counts (k - 6) (pos 0)
    unfolding shown_of
    past_figures l = past s.figures counts 6 k figures l

    pub at_plus : k ≡ 6 → pos s.plus.count ≡ value
    at_plus e = sym (past_figures (omega arith) ∙ ap (λ (i : ℕ). get_or counts (i - 6) (pos 0)) e)

    pub at_minus : k ≡ 7 → pos s.minus.count ≡ value
    at_minus e = sym (past_figures (omega arith) ∙ ap (λ (i : ℕ). get_or counts (i - 6) (pos 0)) e)

-- ---- the table
module _ (r : Registers) (k : ℕ) (a : length r.a.figures ≡ 6) (b : length r.b.figures ≡ 6) (low : length r.ends.low ≡ 6) where
  abbrev cell : ℤ
  cell = get_or (registers r) k (pos 0)

  abbrev tracked : List ℤ
  tracked = r.ends.low ++ r.ends.high

  abbrev behind : List ℤ
  behind = shown_of r.b ++ tracked

  pub at_vrms : k ≡ 0 → r.vrms ≡ cell
  unfolding registers
  at_vrms e = rw e refl

  past_vrms : 1 ≤ k → cell ≡ get_or (shown_of r.a ++ behind) (k - 1) (pos 0)
  unfolding registers
  past_vrms l = past (r.vrms ∷ []) (shown_of r.a ++ behind) 1 k refl l

  pub at_a : 1 ≤ k → k < 9 → get_or (shown_of r.a) (k - 1) (pos 0) ≡ cell
  at_a l h = sym (past_vrms l ∙ within (shown_of r.a) behind 8 (k - 1) (eight r.a a) (omega arith))

  past_a : 9 ≤ k → cell ≡ get_or behind (k - 9) (pos 0)
  past_a l = past_vrms (omega arith) ∙ past (shown_of r.a) behind 8 (k - 1) (eight r.a a) (omega arith) ∙ past_more behind 1 8 k

  pub at_b : 9 ≤ k → k < 17 → get_or (shown_of r.b) (k - 9) (pos 0) ≡ cell
  at_b l h = sym (past_a l ∙ within (shown_of r.b) tracked 8 (k - 9) (eight r.b b) (omega arith))

  past_b : 17 ≤ k → cell ≡ get_or tracked (k - 17) (pos 0)
  past_b l = past_a (omega arith) ∙ past (shown_of r.b) tracked 8 (k - 9) (eight r.b b) (omega arith) ∙ past_more tracked 9 8 k

  pub at_low : 17 ≤ k → k < 23 → get_or r.ends.low (k - 17) (pos 0) ≡ cell
  at_low l h = sym (past_b l ∙ within r.ends.low r.ends.high 6 (k - 17) low (omega arith))

  pub at_high : 23 ≤ k → get_or r.ends.high (k - 23) (pos 0) ≡ cell
  at_high l = sym (past_b (omega arith) ∙ past r.ends.low r.ends.high 6 (k - 17) low (omega arith) ∙ past_more r.ends.high 17 6 k)
