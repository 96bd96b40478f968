-- The packet by which a host reads one register.
use Rattle.std.specs.Prelude.{ℕ, ◌/◌, ◌%◌, List, [], ◌∷◌}
use Rattle.packet.specs.Replies.{with_sum}

-- header and count; A3 with the byte address, low byte first; E3; the checksum. (An address has 16 bits: beyond them this is no row of bytes.)
unfoldable pub read_packet : ℕ → List ℕ
read_packet a = with_sum (0xAA ∷ 7 ∷ 0xA3 ∷ a % 256 ∷ a / 256 ∷ 0xE3 ∷ [])
