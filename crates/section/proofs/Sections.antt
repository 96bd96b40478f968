-- Laws of sections that the proofs of the functions, and of the crates above, cite.
use Prim.Native.Nat.{ℕ, zero, suc, ◌+◌, ◌*◌, ◌-◌, ◌/◌, ◌≤◌, ◌<◌}
use mathlib.Core.Path.{◌≡◌, refl, sym, ap, ◌∙◌}
use mathlib.Core.Bool.{Bool, true, false, cond, ◌&&◌}
use mathlib.Core.List.{List, [], ◌∷◌, ◌++◌}
use native.Mathlib.Nat.{le-div_iff_mul-le}
use native.Mathlib.Omega.{arith}
use lib.ListN.{length, get_or, take, drop, take-append-drop, length-drop}
use lib.Seq.{take-take, ext_get_or, drop-drop, length-take-le, get_or-drop}
use lib.Dec.{leb, ltb, eqb}
use Rattle.std.specs.Prelude.{Some, None, unwrap_or}
use borrow.Author.Tests.{eq-eqb, eqb-true, leb-true, leb-false, le-leb, lt-leb, ltb-true}
use Rattle.serial.proofs.Every.{every_at, every_from, and_left, and_right, both}
use Rattle.serial.specs.Places.{part}
use Rattle.serial.proofs.Places.{length_part, row_fits}
use mir.Syntax.{w64}
use Rattle.std.specs.Int.{from_le_bytes}
use Rattle.std.proofs.lemmas.Nat.{le_bytes_8}
use Rattle.std.specs.Cmp.Lexicographic.{pointwise}
use Rattle.std.proofs.lemmas.Slice.Eq.{slice_eq-Decides}
use Rattle.std.proofs.lemmas.Bool.Decides.{same_from_decides, Decides-eqb, Decides-and, Decides-like}
use Rattle.serial.specs.Serials.{serial_of, serial_bytes}
use Rattle.section.specs.Inside.{front, back}
use Rattle.section.specs.Sections.{place_of, end_of, Lies, lies, entry_at, serial_at, entries_ok, same, distinct, section_ok, first_of, find_in, entry_of, found_in, has, place_in, placed_in}
use Rattle.section.specs.declared.Section.{Section}

-- ---- two serials
-- are the same exactly where they are one list
pub same_self : (x : List ℕ) → same x x ≡ true
unfolding same
same_self x = every_from _ 13 (λ k l. eq-eqb (get_or x k 0) (get_or x k 0) refl)

pub same_is : (x y : List ℕ) → length x ≡ 13 → length y ≡ 13 → same x y ≡ true → x ≡ y
unfolding same
same_is x y lx ly h = ext_get_or 0 x y (lx ∙ sym ly) (λ k l. eqb-true _ _ (every_at (λ (k : ℕ). eqb (get_or x k 0) (get_or y k 0)) 13 h k (omega arith)))

-- they are the same where `==` says so
pub same_read : (x y : List ℕ) (r : Bool) → length x ≡ 13 → length y ≡ 13 → r ≡ pointwise eqb x y → r ≡ same x y
same_read x y r lx ly e =
    same_from_decides r (same x y) (slice_eq-Decides Decides-eqb x y r e) (same_is x y lx ly, λ q. ap (same x) (sym q) ∙ same_self x)

-- and where the numbers of their first and of their last eight bytes are
word_same : (x y : List ℕ) → length x ≡ 8 → length y ≡ 8 → ((i : ℕ) → get_or x i 0 < 256) → ((i : ℕ) → get_or y i 0 < 256) → from_le_bytes w64 x ≡ from_le_bytes w64 y → x ≡ y
word_same x y lx ly bx by e = sym (le_bytes_8 x _ lx bx refl) ∙ le_bytes_8 y _ ly by e

below_take : (n : ℕ) (x : List ℕ) → ((i : ℕ) → get_or x i 0 < 256) → (i : ℕ) → get_or (take n x) i 0 < 256
below_take zero x b i = omega arith
below_take (suc n) [] b i = b i
below_take (suc n) (a ∷ x) b zero = b zero
below_take (suc n) (a ∷ x) b (suc i) = below_take n x (λ k. b (suc k)) i

below_drop : (x : List ℕ) → ((i : ℕ) → get_or x i 0 < 256) → (i : ℕ) → get_or (drop 5 x) i 0 < 256
below_drop x b i = rw (get_or-drop 5 x i 0) (b (5 + i))

length_take : (x : List ℕ) → length x ≡ 13 → length (take 8 x) ≡ 8
length_take x l = length-take-le 8 x (omega arith)

length_drop : (x : List ℕ) → length x ≡ 13 → length (drop 5 x) ≡ 8
length_drop x l = length-drop 5 x ∙ ap (λ (n : ℕ). n - 5) l

eights : (x y : List ℕ) → take 8 x ≡ take 8 y → drop 5 x ≡ drop 5 y → x ≡ y
eights x y f b =
    let rest : drop 8 x ≡ drop 8 y = sym (drop-drop 3 5 x) ∙ ap (drop 3) b ∙ drop-drop 3 5 y in
    sym (take-append-drop 8 x) ∙ ap (λ (h : List ℕ). h ++ drop 8 x) f ∙ ap (λ (t : List ℕ). take 8 y ++ t) rest ∙ take-append-drop 8 y

pub same_words : (x y : List ℕ) → length x ≡ 13 → length y ≡ 13 → ((i : ℕ) → get_or x i 0 < 256) → ((i : ℕ) → get_or y i 0 < 256)
    → (eqb (front x) (front y) && eqb (back x) (back y)) ≡ same x y
unfolding front back
same_words x y lx ly bx by =
    let f : front x ≡ front y → take 8 x ≡ take 8 y = word_same (take 8 x) (take 8 y) (length_take x lx) (length_take y ly) (below_take 8 x bx) (below_take 8 y by) in
    let g : back x ≡ back y → drop 5 x ≡ drop 5 y = word_same (drop 5 x) (drop 5 y) (length_drop x lx) (length_drop y ly) (below_drop x bx) (below_drop y by) in
    same_from_decides _ (same x y)
    (Decides-like _ (λ h. eights x y (f h.0) (g h.1)) (λ e. (ap front e, ap back e)) (Decides-and _ _ (Decides-eqb (front x) (front y)) (Decides-eqb (back x) (back y))))
    (same_is x y lx ly, λ q. ap (same x) (sym q) ∙ same_self x)

-- an entry's serial is its first 13 bytes
pub serial_first : (b : List ℕ) (s : Section) (k : ℕ) → 13 ≤ s.size → serial_at b s k ≡ take 13 (entry_at b s k)
unfolding serial_at entry_at part
serial_first b s k l = sym (take-take 13 s.size (drop (place_of s k) b) l)

-- ---- a section that lies in the bytes
pub lies_has : (b : List ℕ) (s : Section) → lies b s ≡ true → Lies b s
unfolding lies
lies_has b s e =
    let x = leb 13 s.size in
    let y = leb (end_of s) (length b) in
    record { inside = leb-true _ _ (and_right x y e); wide = leb-true _ _ (and_left x y e) }

pub has_lies : (b : List ℕ) (s : Section) → Lies b s → lies b s ≡ true
unfolding lies
has_lies b s l = both (le-leb _ _ l.wide) (le-leb _ _ l.inside)

-- each of its entries is whole, and each of its serials
pub length_entry : (b : List ℕ) (s : Section) (k : ℕ) → Lies b s → k < s.count → length (entry_at b s k) ≡ s.size
unfolding entry_at
length_entry b s k l m = length_part b (place_of s k) s.size (omega (arith, row_fits s.base s.size m, l.inside))

pub length_serial : (b : List ℕ) (s : Section) (k : ℕ) → Lies b s → k < s.count → length (serial_at b s k) ≡ 13
unfolding serial_at
length_serial b s k l m = length_part b (place_of s k) 13 (omega (arith, row_fits s.base s.size m, l.inside, l.wide))

-- its rows can be counted by a division
pub rows_fit : (long base size n : ℕ) → 13 ≤ size → base ≤ long → leb n ((long - base) / size) ≡ leb (base + n * size) long
rows_fit long base size n wide l = by (leb n ((long - base) / size)) refl
  where
    k : 0 < size
    k = omega arith

    by : (t : Bool) → leb n ((long - base) / size) ≡ t → leb n ((long - base) / size) ≡ leb (base + n * size) long
    by true e =
        let h = (le-div_iff_mul-le {k = size} {x = n} {y = long - base} k).0 (leb-true _ _ e) in
        e ∙ sym (le-leb (base + n * size) long (omega (arith, h)))
    by false e = e ∙ sym (lt-leb (base + n * size) long (by_less (leb (base + n * size) long) refl))
      where
        by_less : (t : Bool) → leb (base + n * size) long ≡ t → long < base + n * size
        by_less false u = leb-false _ _ u
        by_less true u =
            let h = (le-div_iff_mul-le {k = size} {x = n} {y = long - base} k).1 (omega (arith, leb-true (base + n * size) long u)) in
            absurd (omega (arith, h, leb-false n ((long - base) / size) e))

-- there the definitions are those without the test
pub section_lies : (b : List ℕ) (s : Section) → Lies b s → section_ok b s ≡ (entries_ok b s && distinct b s)
unfolding section_ok
section_lies b s l = simp (has_lies b s l)

pub find_lies : (b : List ℕ) (s : Section) (t : List ℕ) → Lies b s → find_in b s t ≡ first_of b s (serial_bytes (serial_of t))
unfolding find_in
find_lies b s t l = simp (has_lies b s l)

-- ---- what is found, as an entry or none
pub record FoundAt (b : List ℕ) (s : Section) (t : List ℕ) (k : ℕ) : Type 0 where
  pub held : has b s t ≡ true
  pub entry : find_in b s t ≡ k
  pub within : k < s.count

entry_has : (t : Bool) (n k : ℕ) → cond t (Some n) None ≡ Some k → (t ≡ true) × (n ≡ k)
entry_has true n k e = (refl, cc)
entry_has false n k e = cc

entry_none : (t : Bool) (n : ℕ) → cond t (Some n) None ≡ None → t ≡ false
entry_none true n e = cc
entry_none false n e = refl

pub found_at : (b : List ℕ) (s : Section) (t : List ℕ) (k : ℕ) → Some k ≡ found_in b s t → FoundAt b s t k
unfolding found_in entry_of has
found_at b s t k e =
    let h = entry_has (ltb (find_in b s t) s.count) (find_in b s t) k (sym e) in
    record { held = h.0; entry = h.1; within = omega (arith, ltb-true (find_in b s t) s.count h.0, h.1) }

pub found_none : (b : List ℕ) (s : Section) (t : List ℕ) → None ≡ found_in b s t → has b s t ≡ false
unfolding found_in entry_of has
found_none b s t e = entry_none (ltb (find_in b s t) s.count) (find_in b s t) (sym e)

-- ---- a place or none, and 0 for none
place_or : (t : Bool) (n : ℕ) → unwrap_or (cond t (Some n) None) 0 ≡ cond t n 0
place_or true n = refl
place_or false n = refl

pub placed_or_none : (b : List ℕ) (s : Section) (k : ℕ) → unwrap_or (placed_in b s k) 0 ≡ place_in b s k
unfolding placed_in place_in
placed_or_none b s k = place_or (lies b s && ltb k s.count) (place_of s k)
