-- Energy: one direction's count and remainder.
use Rattle.std.specs.Prelude.{ℕ, ◌+◌, ◌*◌, ◌/◌, ◌%◌, Bool, cond, eqb, ℤ, pos, nat_abs}
use Rattle.std.specs.Int.Signed.{lt_z}
use Rattle.energy.specs.declared.Energy.{Energy}

-- an amount joins the remainder; whole buckets go to the count, which keeps its last 24 bits, and what is left stays as remainder
-- (a bucket is never 0: the start refuses it, and here it takes nothing)
unfoldable pub advanced : Energy → ℕ → ℕ → Energy
advanced e amount bucket = cond (eqb bucket 0) e (record {
  count = (e.count + (e.remainder + amount) / bucket) % 16777216;
  remainder = (e.remainder + amount) % bucket;
})

-- the amount joins only its own direction
unfoldable pub joined_by : Bool → Energy → ℕ → ℕ → Energy
joined_by own e amount bucket = cond own (advanced e amount bucket) e

-- what an interval of n samples with active power p adds: the size of P times n, to the direction of its sign, to none if P is 0
abbrev pub amount_of : ℤ → ℕ → ℕ
amount_of p n = nat_abs p * n

unfoldable pub plus_after : ℤ → ℕ → ℕ → Energy → Energy
plus_after p n bucket e = joined_by (lt_z (pos 0) p) e (amount_of p n) bucket

unfoldable pub minus_after : ℤ → ℕ → ℕ → Energy → Energy
minus_after p n bucket e = joined_by (lt_z p (pos 0)) e (amount_of p n) bucket

-- nothing counted yet
abbrev pub no_energy : Energy
no_energy = record { count = 0; remainder = 0 }
