-- A word that a text begins with, and the way to a byte, as the searches of std find them.
use Prim.Native.Nat.{ℕ, suc, ◌-◌, ◌≤◌, suc-le-suc}
use mathlib.Core.Path.{◌≡◌, refl, ap}
use mathlib.Core.Bool.{Bool, true, false, cond, ◌&&◌, false≢true}
use mathlib.Core.List.{List, [], ◌∷◌}
use native.Mathlib.Omega.{arith}
use lib.Dec.{eqb, ltb}
use lib.ListN.{length, take, drop, length-drop}
use lib.Seq.{take_all}
use Rattle.std.proofs.lemmas.Bool.{ltb-false}
use Rattle.std.specs.Cmp.Lexicographic.{pointwise}
use Rattle.std.specs.Prelude.{Some, None}
use Rattle.std.specs.Option.{unwrap_or}
use Rattle.std.specs.List.{position_or_len}
use Rattle.std.proofs.lemmas.List.Recursion.{is_position_or_len}
use Rattle.console.specs.Texts.{begins_with, length_to}

-- what std's search for a prefix tells
pub begins_is : (w t : List ℕ) → pointwise eqb (take (length w) t) w ≡ begins_with w t
unfolding begins_with
begins_is [] t = refl
begins_is (w ∷ ws) [] = refl
begins_is (w ∷ ws) (c ∷ cs) = ap (λ (b : Bool). eqb c w && b) (begins_is ws cs)

pub and_left : (a b : Bool) → (a && b) ≡ true → a ≡ true
and_left true b e = refl
and_left false b e = e

pub and_right : (a b : Bool) → (a && b) ≡ true → b ≡ true
and_right true b e = e
and_right false b e = absurd (false≢true e)

-- and its search for a byte
to_position : (stop : ℕ) (t : List ℕ) → length_to stop t ≡ position_or_len (λ c. eqb c stop) t
unfolding length_to
to_position stop t = is_position_or_len (length_to stop) (λ c. eqb c stop) refl (λ x xs. ap (cond (eqb x stop) 0) (omega arith)) t

pub to_within : (stop : ℕ) (t : List ℕ) → length_to stop t ≤ length t
unfolding length_to
to_within stop [] = omega arith
to_within stop (c ∷ cs) = by (to_within stop cs) (eqb c stop)
  where
    by : length_to stop cs ≤ length cs → (b : Bool) → cond b 0 (suc (length_to stop cs)) ≤ suc (length cs)
    by h true = omega arith
    by h false = omega arith

found_or_all : (n k : ℕ) → k ≤ n → unwrap_or (cond (ltb k n) (Some k) None) n ≡ k
found_or_all n k h = go (ltb k n) refl
  where
    go : (t : Bool) → ltb k n ≡ t → unwrap_or (cond t (Some k) None) n ≡ k
    go true e = refl
    go false e = omega (arith, ltb-false k n e)

pub to_found : (stop : ℕ) (t : List ℕ) →
    unwrap_or (cond (ltb (position_or_len (λ c. eqb c stop) t) (length t)) (Some (position_or_len (λ c. eqb c stop) t)) None) (length t) ≡ length_to stop t
to_found stop t = rw (← to_position stop t) (found_or_all (length t) (length_to stop t) (to_within stop t))

-- a word is no longer than a text that begins with it
pub begins_within : (w t : List ℕ) → begins_with w t ≡ true → length w ≤ length t
unfolding begins_with
begins_within [] t h = omega arith
begins_within (w ∷ ws) [] h = absurd (false≢true h)
begins_within (w ∷ ws) (c ∷ cs) h = suc-le-suc (begins_within ws cs (and_right (eqb c w) (begins_with ws cs) h))

-- what a part of a text is that reaches to its end
pub rest_of : (a : ℕ) (t : List ℕ) → take (length t - a) (drop a t) ≡ drop a t
rest_of a t = take_all (length t - a) (drop a t) (simp length-drop (omega arith))
