-- `take_bytes` takes bytes until another thing comes or the buffer is full.
use mathlib.Core.Path.{◌≡◌}
use mathlib.Core.List.{map}
use lib.IntN.{pos}
use lib.ListN.{length}
use Rattle.console.specs.Items.{bytes}
use Rattle.console.proofs.ItemLaws.{Going}
use Rattle.console.proofs.items.take_bytes.Given as goal

abbrev pub invariant-loop-count : goal.invariant-loop-count
invariant-loop-count l = Going bytes l.text (map pos l.initial.into) (map pos l.into) l.count l.at × (length l.into ≡ length l.initial.into)
