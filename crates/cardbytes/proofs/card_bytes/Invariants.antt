-- `cardbytes::card_bytes` meets its contract: after the serial, three bytes for each field passed.
use Prim.Native.Nat.{◌+◌, ◌*◌}
use mathlib.Core.Path.{◌≡◌}
use mathlib.Core.List.{◌++◌}
use lib.ListN.{length, take}
use Rattle.card.specs.Cards.{fields_bytes}
use Rattle.cardbytes.proofs.card_bytes.Given as goal

abbrev pub invariant-loop-i : goal.invariant-loop-i
invariant-loop-i l = (length l.c ≡ 37) × (take (13 + 3 * l.i) l.c ≡ take 13 l.initial.c ++ fields_bytes (take l.i l.fields))
