-- A serial as two numbers, by which the code compares it. No public contract rests on it.
use Rattle.std.specs.Prelude.{ℕ, List, take, drop}
use Rattle.std.specs.Int.{from_le_bytes}
use mir.Syntax.{w64}

-- its first eight bytes, low byte first, and its last eight
unfoldable pub front : List ℕ → ℕ
front x = from_le_bytes w64 (take 8 x)

unfoldable pub back : List ℕ → ℕ
back x = from_le_bytes w64 (drop 5 x)
