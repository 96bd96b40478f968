-- Masks: bit 21 is sag, bit 9 is surge (VA_SAG and VA_SURGE of document 004's status).
use Rattle.std.specs.Prelude.{ℕ, ◌+◌, ◌*◌, ◌/◌, ◌%◌, ◌^◌, Bool, false, ◌&&◌, eqb, ℤ, pos, nat_abs}
use Rattle.std.specs.Int.Signed.{le_z}
use Rattle.alarm.specs.declared.Alarms.{Alarms}

-- bit b of a number
abbrev pub bit : ℕ → ℕ → ℕ
bit b n = n / 2 ^ b % 2

-- a mask is not below 0, and has no bit but these two
unfoldable pub only_alarms : ℤ → Bool
only_alarms z = let n = nat_abs z in le_z (pos 0) z && eqb n (bit 21 n * 2 ^ 21 + bit 9 n * 2 ^ 9)

-- the alarms that a mask names
unfoldable pub named_by : ℤ → Alarms
named_by z = let n = nat_abs z in record { sag = eqb (bit 21 n) 1; surge = eqb (bit 9 n) 1 }

-- neither
abbrev pub no_alarms : Alarms
no_alarms = record { sag = false; surge = false }
