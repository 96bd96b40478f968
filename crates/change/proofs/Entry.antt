-- One entry more in a section: the new book byte by byte, and that the three writes into the buffer make it.
use Prim.Native.Nat.{ℕ, ◌+◌, ◌-◌, ◌*◌, ◌≤◌, ◌<◌}
use mathlib.Core.Path.{◌≡◌, refl, sym, ap, ◌∙◌}
use mathlib.Core.Bool.{Bool, true, false}
use mathlib.Core.List.{List, ◌++◌}
use native.Mathlib.Nat.{sub-zero}
use native.Mathlib.Omega.{arith}
use lib.ListN.{length, get_or, take, drop, length-append, length-take, length-drop, get_or-append}
use lib.Seq.{length-take-le, get_or-take, get_or-drop, get_or-append-add, ext_get_or}
use lib.Dec.{ltb}
use borrow.Author.Tests.{ltb-true, ltb-false}
use Rattle.std.specs.List.{copy_within}
use Rattle.std.specs.Int.{w16, to_le_bytes}
use Rattle.serial.specs.Places.{part, put, put_within}
use Rattle.serial.proofs.Places.{length_part, part_at, length_put, put_below, put_in, put_over, put_fits}
use Rattle.section.specs.Sections.{end_of}
use Rattle.change.specs.Change.{count_bytes, with_entry}
use Rattle.section.specs.declared.Section.{Section}

-- `copy_within` moves a part
pub moved_part : (b : List ℕ) (from to dest : ℕ) → from ≤ to → to ≤ length b → copy_within b from to dest ≡ put b dest (part b from (to - from))
unfolding put part
moved_part b from to dest l m = rw (length_part b from (to - from) (omega arith)) refl

-- a count in two bytes
pub count_low_first : (n : ℕ) → n < 65536 → to_le_bytes w16 n ≡ count_bytes n
unfolding count_bytes
count_low_first n l = refl

-- what stands k past the end of the first list
past : (p q : List ℕ) (n k : ℕ) → length p ≡ n → n ≤ k → get_or (p ++ q) k 0 ≡ get_or q (k - n) 0
past p q n k e l =
    let m : k ≡ length p + (k - n) = omega arith in
    ap (λ (i : ℕ). get_or (p ++ q) i 0) m ∙ get_or-append-add p q (k - n) 0

-- ---- the new book, byte by byte
pub record Grown (old new : List ℕ) (s : Section) (x : List ℕ) : Type 0 where
  pub longer : length new ≡ length old + length x
  pub before : (k : ℕ) → k < s.base - 2 → get_or new k 0 ≡ get_or old k 0
  pub number : (k : ℕ) → s.base - 2 ≤ k → k < s.base → get_or new k 0 ≡ get_or (count_bytes (s.count + 1)) (k - (s.base - 2)) 0
  pub inside : (k : ℕ) → s.base ≤ k → k < end_of s → get_or new k 0 ≡ get_or old k 0
  pub entry : (k : ℕ) → end_of s ≤ k → k < end_of s + length x → get_or new k 0 ≡ get_or x (k - end_of s) 0
  pub behind : (k : ℕ) → end_of s + length x ≤ k → get_or new k 0 ≡ get_or old (k - length x) 0

pub grown : (b : List ℕ) (s : Section) (x : List ℕ) → 2 ≤ s.base → end_of s ≤ length b → Grown b (with_entry b s x) s x
unfolding with_entry count_bytes
grown b s x two fits =
    record {
      longer = simp (length-append, length-drop, length-take) (omega (arith, zp));
      before = λ k l. at₄ k (omega (arith, z₄)) ∙ at₃ k (omega (arith, z₃)) ∙ at₂ k (omega (arith, z₂)) ∙ get_or-append p₁ c 0 k (omega (arith, z₁)) ∙ get_or-take (s.base - 2) b k 0 l;
      number = λ k l h. at₄ k (omega (arith, z₄)) ∙ at₃ k (omega (arith, z₃)) ∙ at₂ k (omega (arith, z₂)) ∙ past p₁ c (s.base - 2) k z₁ l;
      inside = λ k l h.
          let e : s.base + (k - s.base) ≡ k = omega arith in
          at₄ k (omega (arith, z₄)) ∙ at₃ k (omega (arith, z₃)) ∙ past p₂ old s.base k z₂ l ∙ part_at b s.base (s.count * s.size) (k - s.base) (omega arith) ∙ ap (λ (i : ℕ). get_or b i 0) e;
      entry = λ k l h. at₄ k (omega (arith, z₄)) ∙ past p₃ x (end_of s) k z₃ l;
      behind = λ k l.
          let e : end_of s + (k - (end_of s + length x)) ≡ k - length x = omega arith in
          past p₄ (drop (end_of s) b) (end_of s + length x) k z₄ l ∙ get_or-drop (end_of s) b (k - (end_of s + length x)) 0 ∙ ap (λ (i : ℕ). get_or b i 0) e;
    }
  where
    p₁ : List ℕ
    p₁ = take (s.base - 2) b

    c : List ℕ
    c = count_bytes (s.count + 1)

    p₂ : List ℕ
    p₂ = p₁ ++ c

    old : List ℕ
    old = part b s.base (s.count * s.size)

    p₃ : List ℕ
    p₃ = p₂ ++ old

    p₄ : List ℕ
    p₄ = p₃ ++ x

    zp : length old ≡ s.count * s.size
    zp = length_part b s.base (s.count * s.size) fits

    z₁ : length p₁ ≡ s.base - 2
    z₁ = length-take-le (s.base - 2) b (omega arith)

    z₂ : length p₂ ≡ s.base
    z₂ = length-append p₁ c ∙ omega (arith, z₁)

    z₃ : length p₃ ≡ end_of s
    z₃ = length-append p₂ old ∙ omega (arith, z₂, zp)

    z₄ : length p₄ ≡ end_of s + length x
    z₄ = length-append p₃ x ∙ omega (arith, z₃)

    at₄ : (k : ℕ) → k < length p₄ → get_or (p₄ ++ drop (end_of s) b) k 0 ≡ get_or p₄ k 0
    at₄ k l = get_or-append p₄ (drop (end_of s) b) 0 k l

    at₃ : (k : ℕ) → k < length p₃ → get_or p₄ k 0 ≡ get_or p₃ k 0
    at₃ k l = get_or-append p₃ x 0 k l

    at₂ : (k : ℕ) → k < length p₂ → get_or p₃ k 0 ≡ get_or p₂ k 0
    at₂ k l = get_or-append p₂ old 0 k l

-- ---- the three writes: what stands behind the section moved up, the entry, and the count
module _ (b : List ℕ) (used : ℕ) (s : Section) (x : List ℕ) (two : 2 ≤ s.base) (end : end_of s ≤ used) (room : used + length x ≤ length b) where
  m₁ : List ℕ
  m₁ = put b (end_of s + length x) (part b (end_of s) (used - end_of s))

  m₂ : List ℕ
  m₂ = put m₁ (end_of s) x

  m₃ : List ℕ
  m₃ = put m₂ (s.base - 2) (count_bytes (s.count + 1))

  zr : length (part b (end_of s) (used - end_of s)) ≡ used - end_of s
  zr = length_part b (end_of s) (used - end_of s) (omega arith)

  length_moved : length m₁ ≡ length b
  unfolding m₁
  length_moved = length_put b (part b (end_of s) (used - end_of s)) (end_of s + length x) (omega (arith, zr))

  length_entered : length m₂ ≡ length b
  unfolding m₂
  length_entered = length_put m₁ x (end_of s) (omega (arith, length_moved)) ∙ length_moved

  zc : length (count_bytes (s.count + 1)) ≡ 2
  unfolding count_bytes
  zc = refl

  z₃ : length m₃ ≡ length b
  unfolding m₃
  z₃ = length_put m₂ (count_bytes (s.count + 1)) (s.base - 2) (omega (arith, length_entered, zc)) ∙ length_entered

  zo : length (take used b) ≡ used
  zo = length-take-le used b (omega arith)

  g : Grown (take used b) (with_entry (take used b) s x) s x
  g = grown (take used b) s x two (omega (arith, zo))

  new : List ℕ
  new = with_entry (take used b) s x

  zn : length new ≡ used + length x
  unfolding new
  zn = g.longer ∙ ap (λ (n : ℕ). n + length x) zo

  -- a byte of the new book, put at the front
  in_new : (k : ℕ) → k < used + length x → get_or (put b 0 new) k 0 ≡ get_or new k 0
  in_new k l = put_in b new 0 k (omega arith) (omega arith) (omega (arith, zn)) ∙ ap (λ (i : ℕ). get_or new i 0) (sub-zero k)

  -- a byte that was there, and stays in its place
  kept : (k : ℕ) → k < end_of s → get_or m₂ k 0 ≡ get_or (take used b) k 0
  unfolding m₂ m₁
  kept k l =
      put_below m₁ x (end_of s) k (omega (arith, length_moved)) l
      ∙ put_below b (part b (end_of s) (used - end_of s)) (end_of s + length x) k (omega arith) (omega arith)
      ∙ sym (get_or-take used b k 0 (omega arith))

  below : (k : ℕ) → k < s.base - 2 → get_or m₃ k 0 ≡ get_or new k 0
  unfolding m₃ new
  below k l = put_below m₂ (count_bytes (s.count + 1)) (s.base - 2) k (omega (arith, length_entered)) l ∙ kept k (omega arith) ∙ sym (g.before k l)

  count : (k : ℕ) → s.base - 2 ≤ k → k < s.base → get_or m₃ k 0 ≡ get_or new k 0
  unfolding m₃ new
  count k l h = put_in m₂ (count_bytes (s.count + 1)) (s.base - 2) k (omega (arith, length_entered)) l (omega (arith, zc)) ∙ sym (g.number k l h)

  over : (k : ℕ) → s.base ≤ k → get_or m₃ k 0 ≡ get_or m₂ k 0
  unfolding m₃
  over k l = put_over m₂ (count_bytes (s.count + 1)) (s.base - 2) k (omega (arith, length_entered, zc)) (omega (arith, zc))

  within : (k : ℕ) → s.base ≤ k → k < end_of s → get_or m₃ k 0 ≡ get_or new k 0
  unfolding new
  within k l h = over k l ∙ kept k h ∙ sym (g.inside k l h)

  entered : (k : ℕ) → end_of s ≤ k → k < end_of s + length x → get_or m₃ k 0 ≡ get_or new k 0
  unfolding m₂ new
  entered k l h = over k (omega arith) ∙ put_in m₁ x (end_of s) k (omega (arith, length_moved)) l h ∙ sym (g.entry k l h)

  moved : (k : ℕ) → end_of s + length x ≤ k → k < used + length x → get_or m₃ k 0 ≡ get_or new k 0
  unfolding m₂ m₁ new
  moved k l h =
      let e : end_of s + (k - (end_of s + length x)) ≡ k - length x = omega arith in
      over k (omega arith)
      ∙ put_over m₁ x (end_of s) k (omega (arith, length_moved)) l
      ∙ put_in b (part b (end_of s) (used - end_of s)) (end_of s + length x) k (omega arith) l (omega (arith, zr))
      ∙ part_at b (end_of s) (used - end_of s) (k - (end_of s + length x)) (omega arith)
      ∙ ap (λ (i : ℕ). get_or b i 0) e
      ∙ sym (g.behind k l ∙ get_or-take used b (k - length x) 0 (omega arith))

  beyond : (k : ℕ) → used + length x ≤ k → get_or m₃ k 0 ≡ get_or b k 0
  unfolding m₂ m₁
  beyond k l =
      over k (omega arith)
      ∙ put_over m₁ x (end_of s) k (omega (arith, length_moved)) (omega arith)
      ∙ put_over b (part b (end_of s) (used - end_of s)) (end_of s + length x) k (omega (arith, zr)) (omega (arith, zr))

  pub inserted : put (put (put b (end_of s + length x) (part b (end_of s) (used - end_of s))) (end_of s) x) (s.base - 2) (count_bytes (s.count + 1)) ≡ put b 0 (with_entry (take used b) s x)
  unfolding m₁ m₂ m₃ new
  inserted =
      ext_get_or 0 m₃ (put b 0 new) (z₃ ∙ sym (length_put b new 0 (omega (arith, zn))))
      (λ k l. by k (ltb k (s.base - 2)) refl (ltb k s.base) refl (ltb k (end_of s)) refl (ltb k (end_of s + length x)) refl (ltb k (used + length x)) refl)
    where
      by : (k : ℕ) (a : Bool) → ltb k (s.base - 2) ≡ a → (c : Bool) → ltb k s.base ≡ c → (d : Bool) → ltb k (end_of s) ≡ d
          → (e : Bool) → ltb k (end_of s + length x) ≡ e → (f : Bool) → ltb k (used + length x) ≡ f → get_or m₃ k 0 ≡ get_or (put b 0 new) k 0
      by k true p c q d r e u f v = below k (ltb-true _ _ p) ∙ sym (in_new k (omega (arith, ltb-true k (s.base - 2) p)))
      by k false p true q d r e u f v = count k (ltb-false _ _ p) (ltb-true _ _ q) ∙ sym (in_new k (omega (arith, ltb-true k s.base q)))
      by k false p false q true r e u f v = within k (ltb-false _ _ q) (ltb-true _ _ r) ∙ sym (in_new k (omega (arith, ltb-true k (end_of s) r)))
      by k false p false q false r true u f v = entered k (ltb-false _ _ r) (ltb-true _ _ u) ∙ sym (in_new k (omega (arith, ltb-true k (end_of s + length x) u)))
      by k false p false q false r false u true v = moved k (ltb-false _ _ u) (ltb-true _ _ v) ∙ sym (in_new k (ltb-true _ _ v))
      by k false p false q false r false u false v =
          let h = ltb-false k (used + length x) v in
          beyond k h ∙ sym (put_over b new 0 k (omega (arith, zn)) (omega (arith, zn)))

  -- as the functions that write say it
  pub written : put_within (put_within (put b (end_of s + length x) (part b (end_of s) (used - end_of s))) (end_of s) x) (s.base - 2) (count_bytes (s.count + 1)) ≡ put b 0 (with_entry (take used b) s x)
  unfolding m₁ m₂
  written =
      ap (λ (m : List ℕ). put_within m (s.base - 2) (count_bytes (s.count + 1))) (put_fits m₁ x (end_of s) (omega (arith, length_moved)))
      ∙ put_fits m₂ (count_bytes (s.count + 1)) (s.base - 2) (omega (arith, length_entered, zc))
      ∙ inserted
