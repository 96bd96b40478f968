-- `byte_address` is three times the word that is named, or else a number.
use mathlib.Core.Path.{◌≡◌, ap}
use Prim.Native.Nat.{◌^◌, ◌<◌}
use native.Mathlib.Omega.{arith}
use lib.IntN.{pos}
use mir.Syntax.{w32, w64}
use mir.Val.{Fits, to_z}
use mir.Facts.{to_z_pos}
use Rattle.std.specs.Prelude.{Some}
use Rattle.address.specs.declared.ByteAddr.{ByteAddr}
use Rattle.address.specs.Addresses.{byte_of}
use borrow.Author.Rules.{rules}
use Rattle.console.proofs.items.byte_address.Goals as goal
use Rattle.console.proofs.items.byte_address.Goals.{After-byte_of-b}

fits : (c : After-byte_of-b) → Fits w32 c.in-Some.w
fits c = search rules

small : (c : After-byte_of-b) → c.byte_of-b.result.0 < 2 ^ 63
unfolding byte_of
small c = omega (arith, ap (λ (b : ByteAddr). b.0) c.byte_of-b.ensures, fits c)

worth : (c : After-byte_of-b) → to_z w64 c.byte_of-b.result.0 ≡ pos c.byte_of-b.result.0
worth c = to_z_pos w64 (small c)

pub overflow_cast-result : goal.overflow_cast-result
overflow_cast-result c = record { sfits = small (goal.at.overflow_cast-result c).After-byte_of-b }

pub returns-in-Some : goal.returns-in-Some
returns-in-Some c = rw (c.in-Some.is, worth (goal.at.returns-in-Some c).After-byte_of-b) (ap (λ (b : ByteAddr). Some (pos b.0)) c.byte_of-b.ensures)
