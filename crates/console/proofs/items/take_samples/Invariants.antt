-- `take_samples` takes samples until another thing comes or the buffer is full.
use mathlib.Core.Path.{◌≡◌}
use lib.ListN.{length}
use Rattle.console.specs.Items.{samples}
use Rattle.console.proofs.ItemLaws.{Going}
use Rattle.console.proofs.items.take_samples.Given as goal

abbrev pub invariant-loop-count : goal.invariant-loop-count
invariant-loop-count l = Going (samples (length l.initial.into)) l.text l.initial.into l.into l.count l.at × (length l.into ≡ length l.initial.into)
