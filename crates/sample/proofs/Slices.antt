-- The samples of three slices: one after another, and a part of them.
use Prim.Native.Nat.{ℕ, zero, suc, ◌<◌}
use mathlib.Core.Path.{◌≡◌, refl, ap, ◌∙◌}
use mathlib.Core.Bool.{Bool}
use mathlib.Core.List.{List, [], ◌∷◌}
use native.Mathlib.Nat.{le_of_suc-le-suc, not-suc-le-zero, suc-ne-zero}
use native.Mathlib.Omega.{arith}
use lib.ListN.{length, get_or, take, drop}
use lib.IntN.{ℤ, pos}
use Rattle.card.specs.declared.Card.{Card}
use Rattle.sample.specs.declared.Inputs.{Inputs}
use Rattle.sample.specs.declared.Sums.{Sums}
use Rattle.sample.specs.Sums.{Sample, samples_in, summed, added_all, previous}

-- sample k of three slices
abbrev pub sample_at : List ℤ → List ℤ → List ℤ → ℕ → Sample
sample_at v s1 s3 k = (get_or v k (pos 0), record { s1 = get_or s1 k (pos 0); s3 = get_or s3 k (pos 0) })

pub samples_long : (v s1 s3 : List ℤ) → length v ≡ length s1 → length v ≡ length s3 → length (samples_in v s1 s3) ≡ length v
unfolding samples_in
samples_long [] s1 s3 e f = refl
samples_long (v ∷ vs) [] s3 e f = absurd (suc-ne-zero (length vs) e)
samples_long (v ∷ vs) (x ∷ xs) [] e f = absurd (suc-ne-zero (length vs) f)
samples_long (v ∷ vs) (x ∷ xs) (y ∷ ys) e f = ap suc (samples_long vs xs ys (omega arith) (omega arith))

pub samples_at : (v s1 s3 : List ℤ) (k : ℕ) → k < length v → length v ≡ length s1 → length v ≡ length s3 → drop k (samples_in v s1 s3) ≡ sample_at v s1 s3 k ∷ drop (suc k) (samples_in v s1 s3)
unfolding samples_in
samples_at [] s1 s3 k h e f = absurd (not-suc-le-zero h)
samples_at (v ∷ vs) [] s3 k h e f = absurd (suc-ne-zero (length vs) e)
samples_at (v ∷ vs) (x ∷ xs) [] k h e f = absurd (suc-ne-zero (length vs) f)
samples_at (v ∷ vs) (x ∷ xs) (y ∷ ys) zero h e f = refl
samples_at (v ∷ vs) (x ∷ xs) (y ∷ ys) (suc k) h e f = samples_at vs xs ys k (le_of_suc-le-suc h) (omega arith) (omega arith)

-- the raw inputs that are kept are the previous ones of the next sample
pub previous_after : (s : Sums) (v ia ib : ℤ) (a b d : Bool) (raw x : Inputs) → previous (summed s v ia ib a b d raw) x ≡ raw
unfolding previous summed
previous_after s v ia ib a b d raw x = refl

pub none_added : (c : Card) (g : ℕ) (s : Sums) (v s1 s3 : List ℤ) → length v ≡ 0 → added_all c g s (samples_in v s1 s3) ≡ s
unfolding added_all samples_in
none_added c g s [] s1 s3 e = refl
none_added c g s (v ∷ vs) s1 s3 e = absurd (suc-ne-zero (length vs) e)

-- a part of the samples
samples_nil : (v s3 : List ℤ) → samples_in v [] s3 ≡ []
unfolding samples_in
samples_nil [] s3 = refl
samples_nil (v ∷ vs) s3 = refl

samples_nil3 : (v s1 : List ℤ) → samples_in v s1 [] ≡ []
unfolding samples_in
samples_nil3 [] s1 = refl
samples_nil3 (v ∷ vs) [] = refl
samples_nil3 (v ∷ vs) (x ∷ xs) = refl

samples_drop : (k : ℕ) (v s1 s3 : List ℤ) → samples_in (drop k v) (drop k s1) (drop k s3) ≡ drop k (samples_in v s1 s3)
unfolding samples_in
samples_drop zero v s1 s3 = refl
samples_drop (suc k) [] s1 s3 = refl
samples_drop (suc k) (v ∷ vs) [] s3 = samples_nil (drop k vs) (drop (suc k) s3)
samples_drop (suc k) (v ∷ vs) (x ∷ xs) [] = samples_nil3 (drop k vs) (drop k xs)
samples_drop (suc k) (v ∷ vs) (x ∷ xs) (y ∷ ys) = samples_drop k vs xs ys

samples_take : (k : ℕ) (v s1 s3 : List ℤ) → samples_in (take k v) (take k s1) (take k s3) ≡ take k (samples_in v s1 s3)
unfolding samples_in
samples_take zero v s1 s3 = refl
samples_take (suc k) [] s1 s3 = refl
samples_take (suc k) (v ∷ vs) [] s3 = refl
samples_take (suc k) (v ∷ vs) (x ∷ xs) [] = refl
samples_take (suc k) (v ∷ vs) (x ∷ xs) (y ∷ ys) = ap (λ (l : List Sample). (v, record { s1 = x; s3 = y }) ∷ l) (samples_take k vs xs ys)

pub samples_part : (k a : ℕ) (v s1 s3 : List ℤ) → samples_in (take k (drop a v)) (take k (drop a s1)) (take k (drop a s3)) ≡ take k (drop a (samples_in v s1 s3))
samples_part k a v s1 s3 = samples_take k (drop a v) (drop a s1) (drop a s3) ∙ ap (take k) (samples_drop a v s1 s3)
