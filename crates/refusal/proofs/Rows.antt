-- A table in rows of 40 bytes has the words of the definition: one computed test, and what it says of each row.
use Prim.Native.Nat.{ℕ, ◌+◌, ◌-◌, ◌*◌, ◌≤◌, ◌<◌}
use mathlib.Core.Path.{◌≡◌, refl, sym, ap, ◌∙◌}
use mathlib.Core.Bool.{Bool, true, false, ◌&&◌, false≢true}
use mathlib.Core.List.{List, [], ◌∷◌}
use native.Mathlib.Nat.{zero-add}
use native.Mathlib.Omega.{arith}
use lib.Dec.{leb, eqb}
use lib.ListN.{length, take, drop, get_or, get_or-eq_default}
use borrow.Author.Tests.{leb-true, leb-false, le-leb, lt-leb, eqb-true}
use Rattle.serial.specs.Every.{every}
use Rattle.serial.specs.Places.{part, put_within, tab}
use Rattle.serial.proofs.Every.{and_left, and_right, every_at}
use Rattle.serial.proofs.Places.{lent, put_none, put_fits, front_put}
use Rattle.serial.specs.Ascii.{ascii}
use Rattle.refusal.specs.Words.{table, words_of, written_of}

-- two texts are the same
unfoldable pub alike : List ℕ → List ℕ → Bool
alike [] [] = true
alike [] (y ∷ ys) = false
alike (x ∷ xs) [] = false
alike (x ∷ xs) (y ∷ ys) = eqb x y && alike xs ys

alike_is : (s t : List ℕ) → alike s t ≡ true → s ≡ t
unfolding alike
alike_is [] [] e = refl
alike_is [] (y ∷ ys) e = absurd (false≢true e)
alike_is (x ∷ xs) [] e = absurd (false≢true e)
alike_is (x ∷ xs) (y ∷ ys) e =
    rw (eqb-true x y (and_left (eqb x y) (alike xs ys) e)) (ap (λ (r : List ℕ). y ∷ r) (alike_is xs ys (and_right (eqb x y) (alike xs ys) e)))

-- the row of a number begins with its words, which lie in it
unfoldable pub row_ok : List ℕ → ℕ → Bool
row_ok rows n = alike (part rows (40 * n) (length (words_of n))) (words_of n)

pub row_is : (rows : List ℕ) → every (row_ok rows) 22 ≡ true → (n : ℕ) → n < 22 → part rows (40 * n) (length (words_of n)) ≡ words_of n
unfolding row_ok
row_is rows all n l = alike_is _ _ (every_at (row_ok rows) 22 all n l)

-- the same of that row as it is lent
pub text_is : (rows : List ℕ) (n l : ℕ) → every (row_ok rows) 22 ≡ true → n < 22 → l ≡ length (words_of n) → take (40 * n + l - 40 * n) (drop (40 * n) rows) ≡ words_of n
text_is rows n l all less e = lent rows (40 * n) l ∙ ap (λ (k : ℕ). part rows (40 * n) k) e ∙ row_is rows all n less

-- the length that stands for a number is that of its words
unfoldable pub length_ok : List ℕ → ℕ → Bool
length_ok lengths n = eqb (get_or lengths n 0) (length (words_of n)) && leb (get_or lengths n 0) 40

pub length_is : (lengths : List ℕ) → every (length_ok lengths) 22 ≡ true → (n : ℕ) → n < 22 → (get_or lengths n 0 ≡ length (words_of n)) × (get_or lengths n 0 ≤ 40)
unfolding length_ok
length_is lengths all n l =
    let h = every_at (length_ok lengths) 22 all n l in
    (eqb-true _ _ (and_left (eqb (get_or lengths n 0) (length (words_of n))) _ h), leb-true _ _ (and_right (eqb (get_or lengths n 0) (length (words_of n))) _ h))

-- no other number has words
pub no_words : (n : ℕ) → 21 < n → words_of n ≡ []
unfolding words_of table ascii
no_words n l = ap ascii (get_or-eq_default table "" {n = n} (omega arith))

checked : every (length_ok (tab (λ (k : ℕ). length (words_of k)) 22)) 22 ≡ true
unfolding every length_ok tab words_of table ascii
checked = refl

-- none has more than forty bytes
pub words_short : (n : ℕ) → length (words_of n) ≤ 40
words_short n = by (leb 22 n) refl
  where
    all : every (length_ok (tab (λ (k : ℕ). length (words_of k)) 22)) 22 ≡ true
    all = checked

    by : (t : Bool) → leb 22 n ≡ t → length (words_of n) ≤ 40
    by true e = rw (no_words n (leb-true 22 n e)) (omega arith)
    by false e =
        let h = length_is (tab (λ (k : ℕ). length (words_of k)) 22) all n (leb-false 22 n e) in
        rw h.0 at h.1

-- ---- what is written
pub written_all : (t : List ℕ) (room : ℕ) → length t ≤ room → written_of t room ≡ length t
unfolding written_of
written_all t room l = simp (le-leb (length t) room l)

pub written_none : (t : List ℕ) (room : ℕ) → room < length t → written_of t room ≡ 0
unfolding written_of
written_none t room l = simp (lt-leb (length t) room l)

pub nothing_written : (b : List ℕ) → (0 ≡ written_of [] (length b)) × (b ≡ put_within b 0 [])
nothing_written b = (sym (written_all [] (length b) (omega arith)), sym (put_fits b [] 0 (omega arith) ∙ put_none b 0))

-- the words, written into forty bytes and taken out again
pub words_shown : (n : ℕ) (b : List ℕ) → length b ≡ 40 → take (written_of (words_of n) (length b)) (put_within b 0 (words_of n)) ≡ words_of n
words_shown n b l =
    let w = words_of n in
    let fits : 0 + length w ≤ length b = omega (arith, words_short n) in
    ap (λ (k : ℕ). take k (put_within b 0 w)) (written_all w (length b) (omega arith) ∙ sym (zero-add (length w)))
    ∙ rw (put_fits b w 0 fits) (front_put b w 0 fits)
