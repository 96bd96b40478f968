-- What the loop compares the sum with is the rule's comparison.
use Prim.Native.Nat.{ℕ, ◌*◌, ◌^◌, ◌≤◌, min, max}
use mathlib.Core.Path.{◌≡◌, refl, sym, ap, subst}
use mathlib.Core.Bool.{Bool, true, false, cond, ◌&&◌, ◌||◌}
use native.Mathlib.Nat.{mul-zero, mul-le-mul}
use native.Mathlib.Omega.{arith}
use lib.Dec.{leb, ltb}
use borrow.Author.Tests.{ltb-true, ltb-false, lt-ltb, le-ltb}
use Rattle.alarm.specs.declared.Limits.{Limits}
use Rattle.alarm.specs.Alarms.{sags, surges, shown}
use Rattle.halfcycle.specs.Inside.{Ranged, levels_of}

-- a level of 0 is never above a sum
none_below : (w level sum : ℕ) → level ≡ 0 → ltb sum (w * (level * level)) ≡ false
none_below w level sum e = rw (e, mul-zero w) (le-ltb sum 0 (omega arith))

pub sag_level : (t : Limits) (full : Bool) (seen sum : ℕ) → leb t.w seen ≡ full → sags t seen sum ≡ ltb sum (cond full (t.w * (t.vsag * t.vsag)) 0)
unfolding sags
sag_level t true seen sum e = rw e (by (ltb 0 t.vsag) refl)
  where
    by : (b : Bool) → ltb 0 t.vsag ≡ b → b && ltb sum (t.w * (t.vsag * t.vsag)) ≡ ltb sum (t.w * (t.vsag * t.vsag))
    by true f = refl
    by false f = sym (none_below t.w t.vsag sum (omega (arith, ltb-false 0 t.vsag f)))
sag_level t false seen sum e = rw e (sym (le-ltb sum 0 (omega arith)))

pub surge_level : (t : Limits) (full : Bool) (seen sum : ℕ) → leb t.w seen ≡ full → sum ≤ 512 * 2 ^ 46 →
    surges t seen sum ≡ ltb (cond (full && ltb 0 t.vsurge) (t.w * (t.vsurge * t.vsurge)) 18446744073709551615) sum
unfolding surges
surge_level t true seen sum e h = rw e (by (ltb 0 t.vsurge))
  where
    by : (b : Bool) → b && ltb (t.w * (t.vsurge * t.vsurge)) sum ≡ ltb (cond b (t.w * (t.vsurge * t.vsurge)) 18446744073709551615) sum
    by true = refl
    by false = sym (le-ltb 18446744073709551615 sum (omega arith))
surge_level t false seen sum e h = rw e (sym (le-ltb 18446744073709551615 sum (omega arith)))

-- no level is above, and none below, what the loop begins with
pub low_most : (t : Limits) (full : Bool) → Ranged t → (levels_of t full).low ≤ 18446744073709551615
unfolding levels_of
low_most t true h = omega (arith, mul-le-mul h.w (mul-le-mul h.vsag h.vsag))
low_most t false h = omega arith

-- the least of sums is below a level where one of them is, and the greatest above it
pub least_below : (a b low : ℕ) → ltb (min b a) low ≡ (ltb a low || ltb b low)
least_below a b low = by (ltb a low) (ltb b low) refl refl
  where
    by : (x y : Bool) → ltb a low ≡ x → ltb b low ≡ y → ltb (min b a) low ≡ (x || y)
    by true y e f = lt-ltb (min b a) low (omega (arith, ltb-true a low e))
    by false true e f = lt-ltb (min b a) low (omega (arith, ltb-true b low f))
    by false false e f = le-ltb (min b a) low (omega (arith, ltb-false a low e, ltb-false b low f))

pub most_above : (a b high : ℕ) → ltb high (max b a) ≡ (ltb high a || ltb high b)
most_above a b high = by (ltb high a) (ltb high b) refl refl
  where
    by : (x y : Bool) → ltb high a ≡ x → ltb high b ≡ y → ltb high (max b a) ≡ (x || y)
    by true y e f = lt-ltb high (max b a) (omega (arith, ltb-true high a e))
    by false true e f = lt-ltb high (max b a) (omega (arith, ltb-true high b f))
    by false false e f = le-ltb high (max b a) (omega (arith, ltb-false high a e, ltb-false high b f))

-- ---- an alarm after a voltage, from whether it was ever so

again : (b c : Bool) → (b || c) ≡ ((b || c) || c)
again true c = refl
again false true = refl
again false false = refl

-- b: whether it was so before, as far as that counts
pub shown_ever : (s was b c : Bool) → (s && b) ≡ (s && was) → shown s was c ≡ (s && (b || c)) || c
unfolding shown
shown_ever true was b c e = subst (λ (w : Bool). (w || c) ≡ ((b || c) || c)) e (again b c)
shown_ever false was b c e = refl

pub or_more : (a b c : Bool) → (a || (b || c)) ≡ ((a || b) || c)
or_more true b c = refl
or_more false b c = refl

pub or_false : (a : Bool) → (a || false) ≡ a
or_false true = refl
or_false false = refl

pub still_ever : (s was b c : Bool) → (s && b) ≡ (s && was) → (s && (b || c)) ≡ (s && shown s was c)
unfolding shown
still_ever true was b c e = ap (λ (w : Bool). w || c) e
still_ever false was b c e = refl
