-- Laws of a text at the end of its twenty bytes, and of the loop that writes the last digit first.
use Prim.Native.Nat.{ℕ, suc, ◌+◌, ◌-◌, ◌/◌, ◌%◌, ◌≤◌, ◌<◌}
use mathlib.Core.Path.{◌≡◌, refl, sym, ap, ◌∙◌}
use mathlib.Core.Bool.{true, false, true≢false}
use mathlib.Core.List.{List, [], ◌∷◌, ◌++◌, append_assoc, append-nil}
use native.Mathlib.Omega.{arith}
use lib.IntN.{ℤ, pos, negsuc, nat_abs}
use lib.ListN.{length, set, replicate, length-append, length-replicate, replicate-append-replicate}
use lib.Seq.{set_at}
use lib.Signed.{lt_z}
use borrow.Author.Tests.{le-ltb}
use Rattle.decimal.specs.declared.Text.{Text}
use Rattle.decimal.specs.Decimals.{decimal, signed_decimal, at_end}
use Rattle.decimal.proofs.Digits.{one_digit, last_digit, some}

-- the last of some zero bytes, stored
last_zero : (k : ℕ) (t : List ℕ) (d : ℕ) → set (replicate (k + 1) 0 ++ t) k d ≡ replicate k 0 ++ d ∷ t
last_zero k t d =
    ap (λ (r : List ℕ). set (r ++ t) k d) (sym (replicate-append-replicate k 1 0))
    ∙ ap (λ (r : List ℕ). set r k d) (append_assoc (replicate k 0) (0 ∷ []) t)
    ∙ set_at (replicate k 0) 0 t d k (length-replicate k 0)

-- a byte stored right before a text that stands at the end
store_before : (t : List ℕ) (d : ℕ) → length t < 20 → set (at_end t).bytes ((at_end t).from - 1) d ≡ (at_end (d ∷ t)).bytes
unfolding at_end
store_before t d l =
    let e : 20 - length t ≡ 20 - suc (length t) + 1 = omega arith in
    let f : 20 - length t - 1 ≡ 20 - suc (length t) = omega arith in
    rw (f, e) (last_zero (20 - suc (length t)) t d)

place_before : (t : List ℕ) (d : ℕ) → (at_end t).from - 1 ≡ (at_end (d ∷ t)).from
unfolding at_end
place_before t d = omega arith

abbrev pub text : List ℕ → ℕ → Text
text b i = record { bytes = b; from = i }

-- both together: a text with one byte more in front
pub one_more : (t : List ℕ) (d : ℕ) → length t < 20 → text (set (at_end t).bytes ((at_end t).from - 1) d) ((at_end t).from - 1) ≡ at_end (d ∷ t)
one_more t d l = ap (λ (b : List ℕ). text b ((at_end t).from - 1)) (store_before t d l) ∙ ap (text (at_end (d ∷ t)).bytes) (place_before t d)

-- the place of a text that is not empty and leaves room
pub place : (t : List ℕ) → length t < 20 → (1 ≤ (at_end t).from) × ((at_end t).from ≤ 20)
unfolding at_end
place t l = (omega arith, omega arith)

-- what holds while the digits of n are written: some stand, and those of rest are still to come
pub record Writing (n : ℕ) (b : List ℕ) (i rest : ℕ) : Type 0 where
  pub behind : List ℕ
  pub stands : text b i ≡ at_end behind
  pub whole : decimal n ≡ decimal rest ++ behind
  pub short : length (decimal n) ≤ 19

pub begins : (n : ℕ) → length (decimal n) ≤ 19 → Writing n (replicate 20 0) 20 n
unfolding at_end
begins n l = record { behind = []; stands = refl; whole = sym (append-nil (decimal n)); short = l }

module _ (n : ℕ) (b : List ℕ) (i rest : ℕ) (w : Writing n b i rest) where
  room : length w.behind < 19
  room = omega (arith, some rest, w.short, ap length w.whole, length-append (decimal rest) w.behind)

  pub low : 1 ≤ i
  low = rw (ap (λ (t : Text). t.from) w.stands) (place w.behind (omega (arith, room))).0

  pub high : i ≤ 20
  high = rw (ap (λ (t : Text). t.from) w.stands) (place w.behind (omega (arith, room))).1

  one_stored : (d : ℕ) → text (set b (i - 1) d) (i - 1) ≡ at_end (d ∷ w.behind)
  one_stored d = ap (λ (t : Text). text (set t.bytes (t.from - 1) d) (t.from - 1)) w.stands ∙ one_more w.behind d (omega (arith, room))

  pub goes_on : 10 ≤ rest → Writing n (set b (i - 1) (48 + rest % 10)) (i - 1) (rest / 10)
  goes_on h =
      record {
        behind = (48 + rest % 10) ∷ w.behind;
        stands = one_stored (48 + rest % 10);
        whole =
            w.whole ∙ ap (λ (r : List ℕ). r ++ w.behind) (last_digit rest h)
            ∙ append_assoc (decimal (rest / 10)) ((48 + rest % 10) ∷ []) w.behind;
        short = w.short;
      }

  pub ends : rest < 10 → text (set b (i - 1) (48 + rest % 10)) (i - 1) ≡ at_end (decimal n)
  ends h = one_stored (48 + rest % 10) ∙ ap at_end (sym (w.whole ∙ ap (λ (r : List ℕ). r ++ w.behind) (one_digit rest h)))

-- ---- the sign
pub minus : (v : ℤ) → lt_z v (pos 0) ≡ true → 45 ∷ decimal (nat_abs v) ≡ signed_decimal v
unfolding signed_decimal
minus (pos n) h = absurd (true≢false (sym h ∙ le-ltb n 0 (omega arith)))
minus (negsuc n) h = refl

pub plain : (v : ℤ) → lt_z v (pos 0) ≡ false → decimal (nat_abs v) ≡ signed_decimal v
unfolding signed_decimal
plain (pos n) h = refl
plain (negsuc n) h = absurd (true≢false h)
