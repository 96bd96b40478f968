-- The root is what document 01 means by it, there is one, and it may be found a pair of bits at a time.
use Prim.Native.Nat.{ℕ, zero, suc, ◌+◌, ◌*◌, ◌-◌, ◌/◌, ◌^◌, ◌≤◌, ◌<◌}
use mathlib.Core.Path.{◌≡◌, refl, ap, sym, subst, ◌∙◌}
use mathlib.Core.Bool.{Bool, true, false, not, cond}
use native.Mathlib.Omega.{arith}
use native.Mathlib.Nat.{mul-le-mul, le_antisymm, div-div-eq-div-mul, div-le_self, div-one, pow-suc}
use native.Mathlib.Decide.{dec_le}
use lib.Dec.{T, eqb, leb, leb→le, nleb→lt, eqb→eq}
use Rattle.root.specs.Root.{Root, Roots, root_by, root_of}

-- there is only one such number
at_most : (x r s : ℕ) → Root x r → Root x s → r ≤ s
at_most x r s h k = either (dec_le r s)
  where
    either : Dec (r ≤ s) → r ≤ s
    either (yes p) = p
    either (no f) =
        let p : s + 1 ≤ r = omega arith in
        omega (arith, mul-le-mul p p, h.low, k.high)

root_only : (x r s : ℕ) → Root x r → Root x s → r ≡ s
root_only x r s h k = le_antisymm (at_most x r s h k) (at_most x s r k h)

-- ---- a pair of bits more: s is the root of x / 4
pub root_more : (x s : ℕ) → Root (x / 4) s → (2 * s + 1) * (2 * s + 1) ≤ x → Root x (2 * s + 1)
root_more x s h k = record { low = k; high = omega (arith, h.high) }

pub root_same : (x s : ℕ) → Root (x / 4) s → x < (2 * s + 1) * (2 * s + 1) → Root x (2 * s)
root_same x s h k = record { low = omega (arith, h.low); high = k }

-- ---- the definition gives the root
root_of_0 : (x : ℕ) → x ≡ 0 → Root x 0
root_of_0 x e = record { low = omega arith; high = omega arith }

chosen : (x s : ℕ) (t : Bool) → Root (x / 4) s →
    (T t → (2 * s + 1) * (2 * s + 1) ≤ x) → (T (not t) → x < (2 * s + 1) * (2 * s + 1)) → Root x (cond t (2 * s + 1) (2 * s))
chosen x s true h f g = root_more x s h (f tt)
chosen x s false h f g = root_same x s h (g tt)

either_is : (x r : ℕ) (t : Bool) → (T t → x ≡ 0) → Root x r → Root x (cond t 0 r)
either_is x r true f h = root_of_0 x (f tt)
either_is x r false f h = h

by_is : (turns x : ℕ) → x ≤ turns → Root x (root_by turns x)
unfolding root_by
by_is zero x h = root_of_0 x (omega arith)
by_is (suc turns) x h =
    let s = root_by turns (x / 4) in
    let odd = (2 * s + 1) * (2 * s + 1) in
    either_is x (cond (leb odd x) (2 * s + 1) (2 * s)) (eqb x 0) (eqb→eq x 0)
    (chosen x s (leb odd x) (by_is turns (x / 4) (omega arith)) (leb→le odd x) (nleb→lt odd x))

-- r·r ≤ x < (r + 1)·(r + 1), for every number
pub root_is : (x : ℕ) → Root x (root_of x)
unfolding root_of
root_is x = by_is x x (omega arith)

pub root_of_lem : Roots root_of
root_of_lem = record { is = root_is; only = λ x r h. root_only x r (root_of x) h (root_is x) }

-- ---- the loop, of which `left` pairs are yet to come: r is the root of the pairs that were taken
quarter : (x left : ℕ) → x / 2 ^ (2 * (left + 1)) ≡ x / 2 ^ (2 * left) / 4
quarter x left = ap (λ (m : ℕ). x / m) power ∙ sym (div-div-eq-div-mul x (2 ^ (2 * left)) 4)
  where
    two_more : 2 * (left + 1) ≡ suc (suc (2 * left))
    two_more = omega arith

    power : 2 ^ (2 * (left + 1)) ≡ 2 ^ (2 * left) * 4
    power = ap (λ (n : ℕ). 2 ^ n) two_more ∙ omega (arith, pow-suc 2 (suc (2 * left)), pow-suc 2 (2 * left))

-- all pairs but the last `left`
abbrev pub taken : ℕ → ℕ → ℕ
taken x left = x / 2 ^ (2 * left)

-- one pair before
pub one_before : (x left r : ℕ) → 0 < left → Root (taken x left) r → Root (taken x (left - 1) / 4) r
one_before x left r h k =
    let e : left ≡ left - 1 + 1 = omega arith in
    subst (λ (y : ℕ). Root y r) (ap (taken x) e ∙ quarter x (left - 1)) k

-- twice the root, and one, has a square of 64 bits
pub root_small : (x left r : ℕ) → x < 2 ^ 64 → Root (taken x left / 4) r → r < 2147483648
root_small x left r h k = either (dec_le 2147483648 r)
  where
    either : Dec (2147483648 ≤ r) → r < 2147483648
    either (yes p) = absurd (omega (arith, mul-le-mul p p, k.low, div-le_self x (2 ^ (2 * left))))
    either (no f) = omega arith

-- before the first pair and after the last
pub root_begins : (x : ℕ) → x < 2 ^ 64 → Root (taken x 32) 0
root_begins x h = root_of_0 (taken x 32) (omega arith)

pub root_ends : (x left r : ℕ) → left ≡ 0 → Root (taken x left) r → r ≡ root_of x
root_ends x left r z h = root_of_lem.only x r (subst (λ (y : ℕ). Root y r) (ap (taken x) z ∙ div-one x) h)

-- the definition computes: the root of 2^46, of one less, and of a number that no machine word holds, 2^202
example : (root_of 70368744177664 ≡ 8388608) × (root_of 70368744177663 ≡ 8388607) × (root_of (2 ^ 202) ≡ 2 ^ 101)
unfolding root_of root_by
example = (refl, refl, refl)
