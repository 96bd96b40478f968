-- The mix with one product: what is now comes out of the division whole. And no step of it is beyond an i64.
use Prim.Native.Nat.{ℕ, ◌+◌, ◌*◌, ◌/◌}
use mathlib.Core.Path.{◌≡◌, ap, ◌∙◌, sym}
use native.Mathlib.Nat.{mul-add}
use native.Mathlib.Omega.{arith}
use lib.IntN.{ℤ, pos, negsuc, ◌+ℤ◌, ◌-ℤ◌, ◌*ℤ◌}
use mir.Syntax.{w16, w32, w64}
use mir.Val.{Fits, SFits, to_z}
use mir.Facts.{to_z_pos}
use Rattle.number.specs.Rounding.{floor_div}
use Rattle.number.proofs.Signed.{up, dn, norm, eq_in, add_is, diff_is, mul_is}
use Rattle.number.proofs.Fits.{Size, size_of, size_nat, size_add, size_sub, size_mul, size_fits, ranges}
use Rattle.sample.specs.Sample.{mixed}

-- both signs of a quotient rounded down
floor_is : (z : ℤ) → (up (floor_div z 4096) ≡ up z / 4096) × (dn (floor_div z 4096) ≡ (dn z + 4095) / 4096)
unfolding floor_div
floor_is (pos a) = omega arith
floor_is (negsuc a) = omega arith

-- an equation of sums, times a number
scaled_by : (k a b c d : ℕ) → a + b ≡ c + d → k * a + k * b ≡ k * c + k * d
scaled_by k a b c d e = sym (mul-add k a b) ∙ ap (λ (n : ℕ). k * n) e ∙ mul-add k c d

module _ (p : ℕ) (x y : ℤ) where
  abbrev rest : ℤ
  rest = pos 4096 -ℤ pos p

  abbrev all : ℤ
  all = rest *ℤ x +ℤ pos p *ℤ y

  abbrev part : ℤ
  part = pos p *ℤ (y -ℤ x)

  -- all is part and 4,096 times x
  whole_out : up all + dn part + 4096 * dn x ≡ dn all + up part + 4096 * up x
  whole_out =
      let w = (diff_is (pos 4096) (pos p)).0 in
      let d = (diff_is y x).0 in
      omega (
        arith,
        (add_is (rest *ℤ x) (pos p *ℤ y)).0,
        (mul_is rest x).0,
        (mul_is (pos p) y).0,
        (mul_is (pos p) (y -ℤ x)).0,
        scaled_by (up x) _ _ _ _ w,
        scaled_by (dn x) _ _ _ _ w,
        scaled_by p _ _ _ _ d,
      )

  pub mix_by : mixed p x y ≡ x +ℤ floor_div part 4096
  unfolding mixed
  mix_by =
      eq_in (floor_div all 4096) (x +ℤ floor_div part 4096)
      (omega (arith, whole_out, floor_is all, floor_is part, add_is x (floor_div part 4096), norm all, norm part, norm x))

-- ---- no step of the mix is beyond an i64
floor_size : {z : ℤ} {B : ℕ} → Size z B → Size (floor_div z 4096) B
floor_size {z} h = omega (arith, floor_is z, h)

weight : {p : ℕ} → Fits w16 p → Size (pos p) 65535
weight h = size_nat (omega arith)

part_size : {p : ℕ} {x y : ℤ} → Fits w16 p → SFits w32 x → SFits w32 y → Size (pos p *ℤ (y -ℤ x)) 281470681743360
part_size h k l = size_mul (weight h) (size_sub (size_of l) (size_of k))

pub read16 : (p : ℕ) → Fits w16 p → to_z w64 p ≡ pos p
read16 p h = to_z_pos w64 (omega arith)

pub weight_fits : {p : ℕ} → Fits w16 p → SFits w64 (pos p)
weight_fits h = size_fits (weight h) tt

pub part_fits : {p : ℕ} {x y : ℤ} → Fits w16 p → SFits w32 x → SFits w32 y → SFits w64 (pos p *ℤ (y -ℤ x))
part_fits h k l = size_fits (part_size h k l) tt

pub mix_fits : {p : ℕ} {x y : ℤ} → Fits w16 p → SFits w32 x → SFits w32 y → SFits w64 (x +ℤ floor_div (pos p *ℤ (y -ℤ x)) 4096)
mix_fits h k l = size_fits (size_add (size_of k) (floor_size (part_size h k l))) tt

pub ruleset mixing = (ranges, read16, weight_fits, part_fits, mix_fits)
