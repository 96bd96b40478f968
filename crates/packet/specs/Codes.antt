-- The header of a packet, and the reply codes of document 004 that are given.
use Rattle.std.specs.Prelude.{ℕ}

-- the first byte of a packet
abbrev pub header : ℕ
header = 0xAA

-- acknowledge with data
abbrev pub with_data : ℕ
with_data = 0xAA

-- acknowledge without data
abbrev pub acknowledge : ℕ
acknowledge = 0xAD

-- negative acknowledge
abbrev pub negative : ℕ
negative = 0xB0

-- command not implemented
abbrev pub not_implemented : ℕ
not_implemented = 0xBC

-- checksum failed
abbrev pub checksum_failed : ℕ
checksum_failed = 0xBD

-- buffer overflow, or packet too long
abbrev pub too_long : ℕ
too_long = 0xBF
