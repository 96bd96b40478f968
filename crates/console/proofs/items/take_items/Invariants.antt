-- `take_items` takes items until another thing comes or the step has no more.
use mathlib.Core.Path.{◌≡◌}
use lib.ListN.{length}
use Rattle.console.specs.Words.{items_of}
use Rattle.console.proofs.ItemLaws.{Going}
use Rattle.console.proofs.items.take_items.Given as goal

abbrev pub invariant-loop-count : goal.invariant-loop-count
invariant-loop-count l = Going (items_of l.w) l.text l.initial.into l.into l.count l.at × (length l.into ≡ length l.initial.into)
