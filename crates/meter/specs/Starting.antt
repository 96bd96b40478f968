-- The start of a module: N 1 to 4,096, B 1 to 2^48 - 1, six words to track, each 0 or one that can be tracked, and the board's configuration, 0 to
-- 255.
use Rattle.std.specs.Prelude.{ℕ, Bool, false, cond, ◌&&◌, List, ℤ, pos, nat_abs, replicate}
use Rattle.std.specs.Int.Signed.{le_z}
use Rattle.steps.specs.Answers.{OrRefusal, refused, accepted}
use Rattle.card.specs.declared.Card.{Card}
use Rattle.serial.specs.Serials.{no_serial}
use Rattle.address.specs.declared.WordAddr.{WordAddr}
use Rattle.address.specs.Slots.{off, every_slot}
use Rattle.sample.specs.Sums.{no_sums}
use Rattle.interval.specs.Close.{none_closed}
use Rattle.meter.specs.declared.Work.{Work}
use Rattle.meter.specs.declared.Meter.{Meter}

-- N and B in range
unfoldable pub numbers_ok : ℤ → ℤ → Bool
numbers_ok n b = le_z (pos 1) n && le_z n (pos 4096) && le_z (pos 1) b && le_z b (pos 281474976710655)

-- and the configuration
unfoldable pub config_ok : ℤ → Bool
config_ok config = le_z (pos 0) config && le_z config (pos 255)

abbrev pub no_card : Card
no_card = record { serial = no_serial; fields = replicate 8 (pos 0) }

-- no interval, counts and remainders 0
abbrev pub fresh_work : ℕ → ℕ → List WordAddr → ℕ → Work
fresh_work n b track config = record { settings = record { n = n; b = b; track = track; config = config }; sums = no_sums; any = false; last = none_closed }

-- and no card
unfoldable pub fresh_of : ℕ → ℕ → List WordAddr → ℕ → Meter
fresh_of n b track config = record { waits = false; waiting = no_card; forced = false; force = no_card; taken = 0; work = fresh_work n b track config }

-- N 1, B 1, all slots off, configuration 0
abbrev pub lowest_meter : Meter
lowest_meter = fresh_of 1 1 (replicate 6 off) 0

-- 7: one of the settings is out of range
unfoldable pub starting : ℤ → ℤ → List WordAddr → ℤ → OrRefusal Meter
starting n b track config =
    cond (numbers_ok n b && every_slot track && config_ok config) (accepted (fresh_of (nat_abs n) (nat_abs b) track (nat_abs config)))
    (refused 7)
