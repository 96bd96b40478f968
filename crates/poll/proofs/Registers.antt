-- Laws of a read of several registers: register by register.
use Prim.Native.Nat.{ℕ, zero, suc, ◌+◌, ◌-◌, ◌<◌}
use mathlib.Core.Path.{◌≡◌, refl, ap, ◌∙◌}
use mathlib.Core.List.{List, ◌∷◌}
use native.Mathlib.Nat.{not-suc-le-zero}
use native.Mathlib.Omega.{arith}
use lib.IntN.{ℤ}
use Rattle.std.specs.Prelude.{Ok, Err}
use Rattle.steps.specs.Answers.{OrRefusal, refused, accepted}
use Rattle.packet.specs.declared.Ending.TheVariants.{Fails}
use Rattle.packet.specs.Codes.{negative}
use Rattle.packet.specs.Commands.{registers_from}
use Rattle.poll.specs.declared.Gathered.{Gathered}
use Rattle.poll.specs.Inside.{keeping, taken_if, read_into}

registers_cons : (at n : ℕ) → 0 < n → registers_from at n ≡ at ∷ registers_from (at + 3) (n - 1)
unfolding registers_from
registers_cons at zero l = absurd (not-suc-le-zero l)
registers_cons at (suc n) l = let e : suc n - 1 ≡ n = omega arith in rw e refl

-- one register, and those behind it
module _ (look : ℕ → OrRefusal ℤ) (g : Gathered) (at n : ℕ) (l : 0 < n) where
  read_cons : (q : OrRefusal ℤ) → look at ≡ q → read_into look (registers_from at n) g ≡ taken_if q g (read_into look (registers_from (at + 3) (n - 1)))
  unfolding read_into
  read_cons q e =
      ap (λ (r : List ℕ). read_into look r g) (registers_cons at n l)
      ∙ ap (λ (q : OrRefusal ℤ). taken_if q g (read_into look (registers_from (at + 3) (n - 1)))) e

  pub read_one : (v : ℤ) → look at ≡ accepted v → read_into look (registers_from at n) g ≡ read_into look (registers_from (at + 3) (n - 1)) (keeping g v)
  read_one v e = read_cons (accepted v) e

  pub read_none : (m : ℕ) → look at ≡ refused m → read_into look (registers_from at n) g ≡ Err (Fails negative)
  read_none m e = read_cons (refused m) e

-- no register is left
pub read_all : (look : ℕ → OrRefusal ℤ) (g : Gathered) (at n : ℕ) → n ≡ 0 → read_into look (registers_from at n) g ≡ Ok g
unfolding read_into registers_from
read_all look g at n e = rw e refl
