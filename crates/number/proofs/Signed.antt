-- Signed numbers as `omega` reads them: `up z` is z where z is above 0, `dn z` is -z where z is below 0, and the other is 0.
-- `signs` turns facts on ℤ into facts on ℕ and back; the laws that end in `-is` say what an operation does to both.
use mathlib.Core.Path.{◌≡◌, refl, sym, ap, subst}
use mathlib.Core.Bool.{Bool, true, false, not, cond}
use Prim.Native.Nat.{ℕ, zero, suc, ◌+◌, ◌*◌, ◌-◌, ◌<◌, ◌≤◌, min}
use native.Mathlib.Omega.{arith}
use native.Mathlib.Nat.{mul-le-mul}
use lib.Dec.{T, ltb, ltb→lt, nltb→le, leb→le, lt→ltb, le→leb}
use lib.IntN.{ℤ, pos, negsuc, neg_ℤ, nat_abs, sub_ℕ, ◌+ℤ◌, ◌-ℤ◌, ◌*ℤ◌}
use lib.Signed.{lt_z, ◌≤ℤ◌, ◌<ℤ◌, le_z_yes, lt_z_yes}

abbrev pub up : ℤ → ℕ
up (pos n) = n
up (negsuc n) = 0

abbrev pub dn : ℤ → ℕ
dn (pos n) = 0
dn (negsuc n) = suc n

-- one of the two is 0
pub norm : (z : ℤ) → min (up z) (dn z) ≡ 0
norm (pos n) = omega arith
norm (negsuc n) = omega arith

-- ---- a fact on ℤ, said in ℕ, and back
pub eq_out : (a b : ℤ) → a ≡ b → up a + dn b ≡ up b + dn a
eq_out a b e = rw e (omega arith)

pub eq_in : (a b : ℤ) → up a + dn b ≡ up b + dn a → a ≡ b
eq_in (pos a) (pos b) h = ap pos (omega arith)
eq_in (pos a) (negsuc b) h = absurd (omega arith)
eq_in (negsuc a) (pos b) h = absurd (omega arith)
eq_in (negsuc a) (negsuc b) h = ap negsuc (omega arith)

is_true : (t : Bool) → t ≡ true → T t
is_true t e = subst T (sym e) tt

is_false : (t : Bool) → t ≡ false → T (not t)
is_false t e = subst (λ (s : Bool). T (not s)) (sym e) tt

lt' : (a b : ℤ) → T (lt_z a b) → up a + dn b < up b + dn a
lt' (pos a) (pos b) t = omega (arith, ltb→lt)
lt' (pos a) (negsuc b) t = absurd t
lt' (negsuc a) (pos b) t = omega arith
lt' (negsuc a) (negsuc b) t = omega (arith, ltb→lt)

nlt' : (a b : ℤ) → T (not (lt_z a b)) → up b + dn a ≤ up a + dn b
nlt' (pos a) (pos b) t = omega (arith, nltb→le)
nlt' (pos a) (negsuc b) t = omega arith
nlt' (negsuc a) (pos b) t = absurd t
nlt' (negsuc a) (negsuc b) t = omega (arith, nltb→le)

pub lt_z_true : (a b : ℤ) → lt_z a b ≡ true → up a + dn b < up b + dn a
lt_z_true a b e = lt' a b (is_true (lt_z a b) e)

pub lt_z_false : (a b : ℤ) → lt_z a b ≡ false → up b + dn a ≤ up a + dn b
lt_z_false a b e = nlt' a b (is_false (lt_z a b) e)

pub le_in : (a b : ℤ) → up a + dn b ≤ up b + dn a → a ≤ℤ b
le_in (pos a) (pos b) h = le_z_yes (le→leb a b (omega arith))
le_in (pos a) (negsuc b) h = absurd (omega arith)
le_in (negsuc a) (pos b) h = le_z_yes tt
le_in (negsuc a) (negsuc b) h = le_z_yes (le→leb b a (omega arith))

pub lt_in : (a b : ℤ) → up a + dn b < up b + dn a → a <ℤ b
lt_in (pos a) (pos b) h = lt_z_yes (lt→ltb a b (omega arith))
lt_in (pos a) (negsuc b) h = absurd (omega arith)
lt_in (negsuc a) (pos b) h = lt_z_yes tt
lt_in (negsuc a) (negsuc b) h = lt_z_yes (lt→ltb b a (omega arith))

pub lt_out : (a b : ℤ) → a <ℤ b → up a + dn b < up b + dn a
lt_out a b h = lt' a b h.lt

pub le_out : (a b : ℤ) → a ≤ℤ b → up a + dn b ≤ up b + dn a
le_out (pos a) (pos b) h = omega (arith, leb→le a b h.le)
le_out (pos a) (negsuc b) h = absurd h.le
le_out (negsuc a) (pos b) h = omega arith
le_out (negsuc a) (negsuc b) h = omega (arith, leb→le b a h.le)

pub ruleset signs = (eq_out, eq_in, lt_z_true, lt_z_false, le_in, lt_in, le_out, lt_out)

-- ---- what an operation does
abbrev diff_by : Bool → ℕ → ℕ → ℤ
diff_by t a b = cond t (negsuc (b - suc a)) (pos (a - b))

sub_is : (a b : ℕ) → (up (sub_ℕ a b) + b ≡ dn (sub_ℕ a b) + a) × (min (up (sub_ℕ a b)) (dn (sub_ℕ a b)) ≡ 0)
sub_is a b = go (ltb a b) (ltb→lt a b) (nltb→le a b)
  where
    go : (t : Bool) → (T t → a < b) → (T (not t) → b ≤ a) → (up (diff_by t a b) + b ≡ dn (diff_by t a b) + a) × (min (up (diff_by t a b)) (dn (diff_by t a b)) ≡ 0)
    go true f g = omega (arith, f tt)
    go false f g = omega (arith, g tt)

pub add_is : (a b : ℤ) → (up (a +ℤ b) + (dn a + dn b) ≡ dn (a +ℤ b) + (up a + up b)) × (min (up (a +ℤ b)) (dn (a +ℤ b)) ≡ 0)
add_is (pos a) (pos b) = omega arith
add_is (pos a) (negsuc b) = omega (arith, sub_is a (suc b))
add_is (negsuc a) (pos b) = omega (arith, sub_is b (suc a))
add_is (negsuc a) (negsuc b) = omega arith

pub neg_is : (b : ℤ) → (up (neg_ℤ b) ≡ dn b) × (dn (neg_ℤ b) ≡ up b)
neg_is (pos zero) = (refl, refl)
neg_is (pos (suc n)) = (refl, refl)
neg_is (negsuc n) = (refl, refl)

pub diff_is : (a b : ℤ) → (up (a -ℤ b) + (dn a + up b) ≡ dn (a -ℤ b) + (up a + dn b)) × (min (up (a -ℤ b)) (dn (a -ℤ b)) ≡ 0)
diff_is a b = omega (arith, neg_is b, add_is a (neg_ℤ b))

pub mul_is : (a b : ℤ) → (up (a *ℤ b) + (up a * dn b + dn a * up b) ≡ dn (a *ℤ b) + (up a * up b + dn a * dn b)) × (min (up (a *ℤ b)) (dn (a *ℤ b)) ≡ 0)
mul_is (pos a) (pos b) = omega arith
mul_is (pos a) (negsuc b) = omega (arith, neg_is (pos (a * suc b)))
mul_is (negsuc a) (pos b) = omega (arith, neg_is (pos (suc a * b)))
mul_is (negsuc a) (negsuc b) = omega arith

-- ---- the size
pub abs_is : (z : ℤ) → nat_abs z ≡ up z + dn z
abs_is (pos n) = omega arith
abs_is (negsuc n) = omega arith

abs_neg : (n : ℕ) → nat_abs (neg_ℤ (pos n)) ≡ n
abs_neg zero = refl
abs_neg (suc n) = refl

pub abs_mul : (a b : ℤ) → nat_abs (a *ℤ b) ≡ nat_abs a * nat_abs b
abs_mul (pos a) (pos b) = refl
abs_mul (pos a) (negsuc b) = abs_neg (a * suc b)
abs_mul (negsuc a) (pos b) = abs_neg (suc a * b)
abs_mul (negsuc a) (negsuc b) = refl

-- a bound on the sizes of two factors bounds both signs of the product
pub mul_within : (a b : ℤ) (A B : ℕ) → up a + dn a ≤ A → up b + dn b ≤ B → up (a *ℤ b) + dn (a *ℤ b) ≤ A * B
mul_within a b A B h k = rw (← abs_is (a *ℤ b), abs_mul) (mul-le-mul (omega (arith, abs_is a)) (omega (arith, abs_is b)))

-- a choice has what both its sides have
pub cond_is : (t : Bool) (x y : ℤ) (P : ℤ → Type 0) → (t ≡ true → P x) → (t ≡ false → P y) → P (cond t x y)
cond_is true x y P f g = f refl
cond_is false x y P f g = g refl
