-- When an alarm stands, one voltage after another, and after a reset.
use Prim.Native.Nat.{ℕ, zero, suc, ◌*◌, ◌≤◌, min}
use mathlib.Core.Path.{◌≡◌, refl, sym, ap, ap₂, ◌∙◌}
use mathlib.Core.Bool.{Bool, true, false, cond, not, ◌&&◌, ◌||◌, and-true}
use mathlib.Core.List.{List, [], ◌∷◌, ◌++◌}
use native.Mathlib.Omega.{arith}
use lib.Dec.{eqb, leb, ltb}
use lib.IntN.{ℤ}
use lib.ListN.{length, take, length-append}
use lib.Seq.{take_all, take-append-le}
use borrow.Author.Tests.{leb-true, leb-false, le-leb, lt-leb, lt-ltb, le-ltb, eq-eqb, ne_eqb}
use Rattle.alarm.specs.declared.Limits.{Limits}
use Rattle.alarm.specs.Alarms.{sags, surges, shown}
use Rattle.halfcycle.specs.History.{some_above, stands}

some_same : (low hi : ℕ) (f g : ℕ → Bool) → ((k : ℕ) → k ≤ hi → f k ≡ g k) → some_above low hi f ≡ some_above low hi g
some_same low zero f g h = refl
some_same low (suc k) f g h =
    ap₂ (λ (a : Bool) (b : Bool). (ltb low (suc k) && a) || b) (h (suc k) (omega arith)) (some_same low k f g (λ j l. h j (omega arith)))

and_false : (b : Bool) → (b && false) ≡ false
and_false true = refl
and_false false = refl

some_none : (low hi : ℕ) (f : ℕ → Bool) → ((k : ℕ) → k ≤ hi → f k ≡ false) → some_above low hi f ≡ false
some_none low zero f h = refl
some_none low (suc k) f h =
    ap₂ (λ (a : Bool) (b : Bool). (ltb low (suc k) && a) || b) (h (suc k) (omega arith)) (some_none low k f (λ j l. h j (omega arith)))
    ∙ ap (λ (a : Bool). a || false) (and_false (ltb low (suc k)))

some_over : (low hi : ℕ) (f : ℕ → Bool) → hi ≤ low → some_above low hi f ≡ false
some_over low zero f h = refl
some_over low (suc k) f h = ap₂ (λ (a : Bool) (b : Bool). (a && f (suc k)) || b) (le-ltb low (suc k) h) (some_over low k f (omega arith))

-- ---- one voltage more

module _ (so : List ℤ → Bool) (since : ℕ) (vs : List ℤ) (v : ℤ) (before : since ≤ length vs) where
  abbrev more : List ℤ
  more = vs ++ (v ∷ [])

  abbrev n : ℕ
  n = length vs

  long : length more ≡ suc n
  long = length-append vs (v ∷ []) ∙ omega arith

  earlier : (k : ℕ) → k ≤ n → take k more ≡ take k vs
  earlier k l = take-append-le k vs (v ∷ []) l

  or_true : (b : Bool) → (b || true) ≡ true
  or_true true = refl
  or_true false = refl

  now_so : (sticky : Bool) → (ltb since (suc n) && (so (take (suc n) more) && (sticky || eqb (suc n) (suc n)))) ≡ so more
  now_so sticky =
      ap₂ (λ (a : Bool) (b : Bool). a && (so (take (suc n) more) && (sticky || b))) (lt-ltb since (suc n) (omega arith)) (eq-eqb (suc n) (suc n) refl)
      ∙ ap₂ (λ (l : List ℤ) (b : Bool). so l && b) (take_all (suc n) more (omega (arith, long))) (or_true sticky)
      ∙ and-true (so more)

  or_swap : (a b : Bool) → (a || b) ≡ (b || a)
  or_swap true true = refl
  or_swap true false = refl
  or_swap false true = refl
  or_swap false false = refl

  split : (sticky : Bool) → stands sticky so since more ≡ (so more || some_above since n (λ k. so (take k more) && (sticky || eqb k (suc n))))
  split sticky =
      ap (λ (m : ℕ). some_above since m (λ k. so (take k more) && (sticky || eqb k m))) long
      ∙ ap (λ (b : Bool). b || some_above since n (λ k. so (take k more) && (sticky || eqb k (suc n)))) (now_so sticky)

  pub stands_more : (sticky : Bool) → stands sticky so since more ≡ shown sticky (stands sticky so since vs) (so more)
  unfolding shown
  stands_more true =
      split true
      ∙ ap (λ (b : Bool). so more || b)
      (some_same since n (λ k. so (take k more) && true) (λ k. so (take k vs) && true) (λ k l. ap (λ (u : List ℤ). so u && true) (earlier k l)))
      ∙ or_swap (so more) (stands true so since vs)
  stands_more false =
      split false
      ∙ ap (λ (b : Bool). so more || b)
      (some_none since n (λ k. so (take k more) && eqb k (suc n))
      (λ k l. ap (λ (b : Bool). so (take k more) && b) (ne_eqb k (suc n) (omega arith)) ∙ and_false (so (take k more))))
      ∙ or_swap (so more) false

-- ---- a reset

pub stands_reset : (sticky : Bool) (so : List ℤ → Bool) (since : ℕ) (vs : List ℤ) (named : Bool) →
    (stands sticky so since vs && not named) ≡ stands sticky so (cond named (length vs) since) vs
stands_reset sticky so since vs true =
    and_false (stands sticky so since vs) ∙ sym (some_over (length vs) (length vs) (λ k. so (take k vs) && (sticky || eqb k (length vs))) (omega arith))
stands_reset sticky so since vs false = and-true (stands sticky so since vs)

-- ---- how many were seen, at most W, is as good as how many came

full_min : (w n : ℕ) → leb w (min w n) ≡ leb w n
full_min w n = by (leb w n) refl
  where
    by : (b : Bool) → leb w n ≡ b → leb w (min w n) ≡ leb w n
    by true e = le-leb w (min w n) (omega (arith, leb-true w n e)) ∙ sym e
    by false e = lt-leb w (min w n) (omega (arith, leb-false w n e)) ∙ sym e

pub sags_min : (t : Limits) (n sum : ℕ) → sags t (min t.w n) sum ≡ sags t n sum
unfolding sags
sags_min t n sum = ap (λ (b : Bool). b && ltb 0 t.vsag && ltb sum (t.w * (t.vsag * t.vsag))) (full_min t.w n)

pub surges_min : (t : Limits) (n sum : ℕ) → surges t (min t.w n) sum ≡ surges t n sum
unfolding surges
surges_min t n sum = ap (λ (b : Bool). b && ltb 0 t.vsurge && ltb (t.w * (t.vsurge * t.vsurge)) sum) (full_min t.w n)
