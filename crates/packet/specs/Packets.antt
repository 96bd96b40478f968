-- A packet: the header, the count of all its bytes, its commands, and the checksum. Whether it is whole, before any command is looked at.
use Rattle.std.specs.Prelude.{ℕ, ◌+◌, ◌-◌, ◌%◌, Bool, cond, ◌||◌, not, List, [], ◌∷◌, eqb, ltb, length, get_or, take}
use Rattle.serial.specs.Places.{part}
use Rattle.packet.specs.declared.Ending.{Ending}
use Rattle.packet.specs.declared.Ending.TheVariants.{Whole, Fails, Unanswered}
use Rattle.packet.specs.Codes.{header, negative, checksum_failed, too_long}

unfoldable pub sum_of : List ℕ → ℕ
sum_of [] = 0
sum_of (b ∷ bs) = b + sum_of bs

-- the sum of all bytes, modulo 256
unfoldable pub checksum : List ℕ → ℕ
checksum bytes = sum_of bytes % 256

-- how many bytes the packet says that it has, all counted: its second byte
abbrev pub count_in : List ℕ → ℕ
count_in p = get_or p 1 0

-- fewer than 2 bytes, another header, a count below 3, or fewer bytes than the count says
unfoldable pub no_packet : List ℕ → Bool
no_packet p = ltb (length p) 2 || not (eqb (get_or p 0 0) header) || ltb (count_in p) 3 || ltb (length p) (count_in p)

-- the last byte is the sum of all before it
unfoldable pub sum_right : List ℕ → Bool
sum_right p = eqb (get_or p (length p - 1) 0) (checksum (take (length p - 1) p))

-- no reply to what is no packet; then in this order: more bytes than the count says, a wrong sum, no command at all
unfoldable pub judged : List ℕ → Ending
judged p =
    cond (no_packet p) Unanswered
    (cond (ltb (count_in p) (length p)) (Fails too_long)
    (cond (not (sum_right p)) (Fails checksum_failed)
    (cond (eqb (length p) 3) (Fails negative)
    Whole)))

-- what stands between count and checksum
unfoldable pub commands_in : List ℕ → List ℕ
commands_in p = part p 2 (length p - 3)
