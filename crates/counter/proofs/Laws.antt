-- Laws of lines.
use Prim.Native.Nat.{ℕ, ◌+◌, ◌≤◌}
use mathlib.Core.Path.{◌≡◌}
use mathlib.Core.List.{List, ◌++◌}
use lib.ListN.{length, take}
use Rattle.serial.specs.Places.{put_within}
use Rattle.serial.proofs.Places.{put_fits, front_put}

-- ---- a text that was put at a place and is read from the front
pub shown_more : (b t : List ℕ) (at : ℕ) → at + length t ≤ length b → take (at + length t) (put_within b at t) ≡ take at b ++ t
shown_more b t at l = rw (put_fits b t at l) (front_put b t at l)
