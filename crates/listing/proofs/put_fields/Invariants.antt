-- `listing::put_fields` meets its contract: the fields passed stand in the line.
use Prim.Native.Nat.{◌+◌, ◌*◌, ◌≤◌}
use lib.ListN.{take}
use Rattle.listing.specs.Lines.{fields_text}
use Rattle.listing.specs.Buffer.{Made}
use Rattle.listing.proofs.put_fields.Given as goal

abbrev pub invariant-loop-field : goal.invariant-loop-field
invariant-loop-field l = (l.field-index ≤ 8) × (l.from + 97 ≤ 205852) × (Made l.initial.out l.out l.from l.at (fields_text (take l.field-index l.field-items))) × (l.at ≤ l.from + 12 * l.field-index)
