-- A list, filled in order over an old one, and the list of six slots.
use Prim.Native.Nat.{ℕ, zero, suc, ◌+◌, ◌≤◌, ◌<◌}
use mathlib.Core.Path.{◌≡◌, refl, sym, ap, ◌∙◌}
use mathlib.Core.List.{List, [], ◌∷◌, ◌++◌, append-nil}
use native.Mathlib.Nat.{zero-add, add-zero}
use native.Mathlib.Numerals.{add-one}
use native.Mathlib.Omega.{arith}
use lib.ListN.{length, get_or, take, drop, set, length-append, length-take, length-drop, drop_of_length-le}
use lib.Seq.{paste-suc, take-length, get_or-append-add, get_or-drop}
use lib.IntN.{ℤ, pos}
use Rattle.tracking.specs.Tracking.{slots}

module _ {A : Type 0} where
  -- d, with the first i of s laid over it
  abbrev pub over : List A → List A → ℕ → List A
  over d s i = take i s ++ drop i d

  pub over_more : (d s : List A) (i : ℕ) (z : A) → i < length d → i < length s → set (over d s i) i (get_or s i z) ≡ over d s (i + 1)
  over_more d s i z hd hs = rw add-one (simp zero-add at (paste-suc d 0 s i z (rw zero-add hd) hs))

  pub over_all : (d s : List A) (i : ℕ) → i ≡ length s → length d ≤ i → over d s i ≡ s
  over_all d s i e h = rw (drop_of_length-le d h, append-nil, e, take-length)

  pub over_at : (d s : List A) (i : ℕ) (z : A) → i ≤ length s → get_or (over d s i) i z ≡ get_or d i z
  over_at d s i z h =
      let l : length (take i s) ≡ i = simp length-take (omega arith) in
      ap (λ (k : ℕ). get_or (over d s i) k z) (sym l ∙ sym (add-zero (length (take i s)))) ∙ get_or-append-add (take i s) (drop i d) 0 z ∙ get_or-drop i d 0 z ∙ ap (λ (k : ℕ). get_or d k z) (add-zero i)

  pub over_long : (d s : List A) (i : ℕ) → i ≤ length s → length d ≡ length s → length (over d s i) ≡ length s
  over_long d s i h e = simp (length-append, length-take, length-drop) (omega arith)

pub slot_at : (f : ℕ → ℤ) (k : ℕ) → k < 6 → get_or (slots f) k (pos 0) ≡ f k
slot_at f zero h = refl
slot_at f (suc zero) h = refl
slot_at f (suc (suc zero)) h = refl
slot_at f (suc (suc (suc zero))) h = refl
slot_at f (suc (suc (suc (suc zero)))) h = refl
slot_at f (suc (suc (suc (suc (suc zero))))) h = refl
slot_at f (suc (suc (suc (suc (suc (suc k)))))) h = absurd (omega arith)

-- a turn lays one slot more over what was there
pub slot_more : (d : List ℤ) (f : ℕ → ℤ) (k : ℕ) → length d ≡ 6 → k < 6 → set (over d (slots f) k) k (f k) ≡ over d (slots f) (k + 1)
slot_more d f k e h = rw (slot_at f k h) at (over_more d (slots f) k (pos 0) (rw e h) h)

-- a list of six is its six elements
pub six_all : (f : List ℤ) → length f ≡ 6 → slots (λ k. get_or f k (pos 0)) ≡ f
six_all [] e = absurd (omega arith)
six_all (a ∷ []) e = absurd (omega arith)
six_all (a ∷ b ∷ []) e = absurd (omega arith)
six_all (a ∷ b ∷ c ∷ []) e = absurd (omega arith)
six_all (a ∷ b ∷ c ∷ d ∷ []) e = absurd (omega arith)
six_all (a ∷ b ∷ c ∷ d ∷ g ∷ []) e = absurd (omega arith)
six_all (a ∷ b ∷ c ∷ d ∷ g ∷ h ∷ []) e = refl
six_all (a ∷ b ∷ c ∷ d ∷ g ∷ h ∷ i ∷ r) e = absurd (omega arith)
