-- Laws of parts of a list, of a list put over another, and of a list made from a rule.
use Prim.Native.Nat.{ℕ, zero, suc, ◌+◌, ◌-◌, ◌*◌, ◌≤◌, ◌<◌}
use mathlib.Core.Path.{◌≡◌, refl, sym, ap, ◌∙◌}
use mathlib.Core.List.{List, [], ◌∷◌, ◌++◌, append_assoc, append-nil}
use mathlib.Core.Logic.{⊎_elim}
use native.Mathlib.Nat.{le_of_suc-le-suc, not-suc-le-zero, eq-or-lt_of_le, add-zero, sub_self, sub-zero, zero-sub, add-sub_cancel_left}
use native.Mathlib.Numerals.{add-one}
use native.Mathlib.Omega.{arith}
use borrow.Author.Tests.{le-leb}
use borrow.Rule.Slice.PartMut.{put_mid}
use lib.ListN.{length, get_or, take, drop, set, length-append, length-take, length-drop, take-append-drop, drop_of_length-le, replicate, get_or-append}
use lib.Seq.{length-take-le, drop-cons, set_at, get_or-take, get_or-drop, get_or-append-add, take-suc, get_or_at, ext_get_or, take_at, take_all, take-nil, drop-append-add, drop-drop, take-suc-set, paste, paste-zero, paste-suc, take-length, drop-length}
use Rattle.serial.specs.Places.{part, put, put_within, tab}

-- ---- part
-- a part that is lent from at to at + n
pub lent : (b : List ℕ) (at n : ℕ) → take (at + n - at) (drop at b) ≡ part b at n
unfolding part
lent b at n = rw (add-sub_cancel_left at n)

pub length_part : (b : List ℕ) (at n : ℕ) → at + n ≤ length b → length (part b at n) ≡ n
unfolding part
length_part b at n l = simp (length-take, length-drop) (omega arith)

-- a part's bytes are the whole's
pub part_at : (b : List ℕ) (at n k : ℕ) → k < n → get_or (part b at n) k 0 ≡ get_or b (at + k) 0
unfolding part
part_at b at n k l = rw (get_or-take, get_or-drop)

part_cons : (b : List ℕ) (i n : ℕ) → i < length b → part b i (suc n) ≡ get_or b i 0 ∷ part b (i + 1) n
unfolding part
part_cons b i n l = rw (drop-cons b i 0 l, add-one i)

-- two parts with the same bytes
pub parts_same : (a b : List ℕ) (x y n : ℕ) → x + n ≤ length a → y + n ≤ length b → ((k : ℕ) → k < n → get_or a (x + k) 0 ≡ get_or b (y + k) 0) → part a x n ≡ part b y n
parts_same a b x y n l m h =
    let z = length_part a x n l in
    ext_get_or 0 (part a x n) (part b y n) (z ∙ sym (length_part b y n m))
    (λ k i.
    let j : k < n = omega (arith, z) in
    part_at a x n k j ∙ h k j ∙ sym (part_at b y n k j))

-- a part that begins past the end, and one that takes all the rest
pub part_past : (b : List ℕ) (at n : ℕ) → length b ≤ at → part b at n ≡ []
unfolding part
part_past b at n l = rw (drop_of_length-le b {i = at} l) (take-nil n)

pub part_rest : (b : List ℕ) (at n : ℕ) → length b - at ≤ n → take (length b - at) (drop at b) ≡ part b at n
unfolding part
part_rest b at n l = take_all (length b - at) (drop at b) (omega (arith, length-drop at b)) ∙ sym (take_all n (drop at b) (omega (arith, length-drop at b)))

-- row j of n rows of size bytes ends before the end of the last
pub row_fits : (base size : ℕ) {j n : ℕ} → j < n → base + j * size + size ≤ base + n * size
row_fits base size {j} {n} l = omega (arith, native.Mathlib.Nat.mul-le-mul_right size l, native.Mathlib.Nat.suc-mul j size)

-- ---- put
-- what stands k past the end of the first list
past : (p q : List ℕ) (n k : ℕ) → length p ≡ n → get_or (p ++ q) (n + k) 0 ≡ get_or q k 0
past p q n k e = rw (← e) (get_or-append-add p q k 0)

-- how long what comes before the rest is
head_length : (b xs : List ℕ) (at : ℕ) → at ≤ length b → length (take at b ++ xs) ≡ at + length xs
head_length b xs at l = simp (length-append, length-take) (omega arith)

pub put_none : (b : List ℕ) (at : ℕ) → put b at [] ≡ b
unfolding put
put_none b at = rw (append-nil, add-zero, take-append-drop)

pub length_put : (b xs : List ℕ) (at : ℕ) → at + length xs ≤ length b → length (put b at xs) ≡ length b
unfolding put
length_put b xs at l = simp (length-append, length-take, length-drop) (omega arith)

pub put_fits : (b xs : List ℕ) (at : ℕ) → at + length xs ≤ length b → put_within b at xs ≡ put b at xs
unfolding put_within
put_fits b xs at l = simp (le-leb _ _ l)

-- what the library says of a part that was written as a whole
pub put_mid_is : (b xs : List ℕ) (at : ℕ) → put_mid at (at + length xs - at) b xs ≡ put b at xs
unfolding put
put_mid_is b xs at = rw (add-sub_cancel_left at (length xs), drop-drop (length xs) at b) (sym (append_assoc (take at b) xs (drop (at + length xs) b)))

-- one byte more before what was put
put_cons : (b xs : List ℕ) (at v : ℕ) → at + 1 + length xs ≤ length b → set (put b (at + 1) xs) at v ≡ put b at (v ∷ xs)
unfolding put
put_cons b xs at v l =
    let d = drop (at + 1 + length xs) b in
    let e : at + suc (length xs) ≡ at + 1 + length xs = omega arith in
    rw (e, ap (λ (n : ℕ). take n b) (add-one at) ∙ take-suc b at 0 (omega arith))
    (ap (λ (r : List ℕ). set r at v) (ap (λ (r : List ℕ). r ++ d) (append_assoc (take at b) (get_or b at 0 ∷ []) xs) ∙ append_assoc (take at b) (get_or b at 0 ∷ xs) d)
    ∙ set_at (take at b) (get_or b at 0) (xs ++ d) v at (length-take-le at b (omega arith))
    ∙ sym (append_assoc (take at b) (v ∷ xs) d))

pub put_below : (b xs : List ℕ) (at k : ℕ) → at ≤ length b → k < at → get_or (put b at xs) k 0 ≡ get_or b k 0
unfolding put
put_below b xs at k l h =
    rw append_assoc
    (get_or-append (take at b) (xs ++ drop (at + length xs) b) 0 k (omega (arith, length-take-le at b l)) ∙ get_or-take at b k 0 h)

put_inside : (b xs : List ℕ) (at k : ℕ) → at ≤ length b → k < length xs → get_or (put b at xs) (at + k) 0 ≡ get_or xs k 0
unfolding put
put_inside b xs at k l h =
    rw append_assoc
    (past (take at b) (xs ++ drop (at + length xs) b) at k (length-take-le at b l) ∙ get_or-append xs (drop (at + length xs) b) 0 k h)

put_above : (b xs : List ℕ) (at k : ℕ) → at + length xs ≤ length b → get_or (put b at xs) (at + length xs + k) 0 ≡ get_or b (at + length xs + k) 0
unfolding put
put_above b xs at k l =
    past (take at b ++ xs) (drop (at + length xs) b) (at + length xs) k (head_length b xs at (omega arith)) ∙ get_or-drop (at + length xs) b k 0

-- a byte of what was put, by its place in the whole
pub put_in : (b xs : List ℕ) (at k : ℕ) → at ≤ length b → at ≤ k → k < at + length xs → get_or (put b at xs) k 0 ≡ get_or xs (k - at) 0
put_in b xs at k l h h' =
    let e : k ≡ at + (k - at) = omega arith in
    ap (λ (m : ℕ). get_or (put b at xs) m 0) e ∙ put_inside b xs at (k - at) l (omega arith)

pub put_over : (b xs : List ℕ) (at k : ℕ) → at + length xs ≤ length b → at + length xs ≤ k → get_or (put b at xs) k 0 ≡ get_or b k 0
put_over b xs at k l h =
    let e : k ≡ at + length xs + (k - (at + length xs)) = omega arith in
    ap (λ (m : ℕ). get_or (put b at xs) m 0) e ∙ put_above b xs at (k - (at + length xs)) l ∙ ap (λ (m : ℕ). get_or b m 0) (sym e)

-- what is put at the end of a front makes a longer front
pub front_put : (b xs : List ℕ) (at : ℕ) → at + length xs ≤ length b → take (at + length xs) (put b at xs) ≡ take at b ++ xs
unfolding put
front_put b xs at l = take_at (take at b ++ xs) (drop (at + length xs) b) (at + length xs) (head_length b xs at (omega arith))

-- one put right behind another
pub put_more : (b xs ys : List ℕ) (at : ℕ) → at + length xs + length ys ≤ length b → put (put b at xs) (at + length xs) ys ≡ put b at (xs ++ ys)
unfolding put
put_more b xs ys at l =
    let p = take at b ++ xs in
    let n = at + length xs in
    let z : length p ≡ n = head_length b xs at (omega arith) in
    let e : n + length ys ≡ at + length (xs ++ ys) = simp length-append (omega arith) in
    ap (λ (r : List ℕ). r ++ ys ++ drop (n + length ys) (p ++ drop n b)) (take_at p (drop n b) n z)
    ∙ ap (λ (r : List ℕ). p ++ ys ++ r) (ap (λ (m : ℕ). drop (m + length ys) (p ++ drop n b)) (sym z) ∙ drop-append-add p (drop n b) (length ys) ∙ drop-drop (length ys) n b)
    ∙ ap (λ (r : List ℕ). r ++ drop (n + length ys) b) (append_assoc (take at b) xs ys)
    ∙ ap (λ (k : ℕ). take at b ++ (xs ++ ys) ++ drop k b) e

-- what is put up to the end
pub put_last : (b xs : List ℕ) (at : ℕ) → at + length xs ≡ length b → put b at xs ≡ take at b ++ xs
unfolding put
put_last b xs at e = rw (e, drop-length) (append-nil (take at b ++ xs))

pub drop_replicate : (n m a : ℕ) → drop n (replicate m a) ≡ replicate (m - n) a
drop_replicate zero m a = rw sub-zero
drop_replicate (suc n) zero a = rw zero-sub
drop_replicate (suc n) (suc m) a = let e : suc m - suc n ≡ m - n = omega arith in rw e (drop_replicate n m a)

-- ---- loops that write
-- a turn of the loop that copies xs: k bytes of it stand
pub copied_none : (b xs : List ℕ) (at : ℕ) → b ≡ paste b at xs 0
copied_none b xs at = paste-zero b at xs

pub copied_more : (b xs : List ℕ) (at k : ℕ) → at + k < length b → k < length xs → set (paste b at xs k) (at + k) (get_or xs k 0) ≡ paste b at xs (k + 1)
copied_more b xs at k l h = rw add-one (paste-suc b at xs k 0 l h)

pub copied_all : (b xs : List ℕ) (at : ℕ) → paste b at xs (length xs) ≡ put b at xs
unfolding put
copied_all b xs at = rw take-length

-- a turn of the loop that moves bytes up, the last first: byte i goes to i + by
pub move_more : (b : List ℕ) (i to by : ℕ) → i < to → to + by ≤ length b
    → (m : List ℕ) → m ≡ put b (i + 1 + by) (part b (i + 1) (to - (i + 1))) → set m (i + by) (get_or m i 0) ≡ put b (i + by) (part b i (to - i))
move_more b i to by l f m e =
    let rest = part b (i + 1) (to - (i + 1)) in
    let n : to - i ≡ suc (to - (i + 1)) = omega arith in
    let s : i + 1 + by ≡ i + by + 1 = omega arith in
    let z : length rest ≡ to - (i + 1) = length_part b (i + 1) (to - (i + 1)) (omega arith) in
    let below : get_or m i 0 ≡ get_or b i 0 = ap (λ (r : List ℕ). get_or r i 0) e ∙ put_below b rest (i + 1 + by) i (omega arith) (omega arith) in
    rw (below, e, s, n, part_cons b i (to - (i + 1)) (omega arith)) (put_cons b rest (i + by) (get_or b i 0) (omega arith))

-- no byte of it is moved yet
pub put_part_none : (b : List ℕ) (at to : ℕ) → put b at (part b to (to - to)) ≡ b
unfolding part
put_part_none b at to = rw (sub_self to) (put_none b at)

-- ---- tab
module _ {A : Type 0} where
  pub length_tab : (p : ℕ → A) (n : ℕ) → length (tab p n) ≡ n
  unfolding tab
  length_tab p zero = refl
  length_tab p (suc n) = simp length-append (omega (arith, length_tab p n))

  pub tab_more : (p : ℕ → A) (n : ℕ) → tab p (n + 1) ≡ tab p n ++ (p n ∷ [])
  unfolding tab
  tab_more p n = rw add-one

  pub tab_at : (p : ℕ → A) (d : A) (n k : ℕ) → k < n → get_or (tab p n) k d ≡ p k
  unfolding tab
  tab_at p d zero k l = absurd (not-suc-le-zero l)
  tab_at p d (suc n) k l =
      ⊎_elim (λ e. rw e (get_or_at (tab p n) (p n) [] d n (length_tab p n)))
      (λ lt. get_or-append (tab p n) (p n ∷ []) d k (omega (arith, length_tab p n)) ∙ tab_at p d n k lt)
      (eq-or-lt_of_le (le_of_suc-le-suc l))

  -- a turn of the loop that fills d with p 0, p 1, and so on: k of them stand
  pub fill_none : (p : ℕ → A) (d : List A) → take 0 d ≡ tab p 0
  unfolding tab
  fill_none p d = refl

  pub fill_more : (p : ℕ → A) (d : List A) (k : ℕ) → k < length d → take k d ≡ tab p k → take (k + 1) (set d k (p k)) ≡ tab p (k + 1)
  fill_more p d k l e = rw (tab_more p k, ← e, add-one k) (take-suc-set d k (p k) l)

  pub fill_all : (p : ℕ → A) (d : List A) (n : ℕ) → length d ≡ n → take n d ≡ tab p n → d ≡ tab p n
  fill_all p d n l e = sym (take_all n d (omega arith)) ∙ e

  -- a list is the table of its elements
  pub tab_of : (xs : List A) (d : A) (n : ℕ) → length xs ≡ n → tab (λ (k : ℕ). get_or xs k d) n ≡ xs
  tab_of xs d n e =
      ext_get_or d (tab (λ (k : ℕ). get_or xs k d) n) xs (length_tab _ n ∙ sym e)
      (λ k l. tab_at (λ (k : ℕ). get_or xs k d) d n k (omega (arith, length_tab (λ (k : ℕ). get_or xs k d) n)))

  pub tab_same : (p q : ℕ → A) (n : ℕ) → ((k : ℕ) → k < n → p k ≡ q k) → tab p n ≡ tab q n
  unfolding tab
  tab_same p q zero h = refl
  tab_same p q (suc n) h = rw (tab_same p q n (λ k l. h k (omega arith)), h n (omega arith))
