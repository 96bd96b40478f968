-- `put_entries` meets its contract: one reader goes from the first entry to the end, and each turn puts the line of the entry where it stands.
use mathlib.Core.Path.{◌≡◌}
use Rattle.listing.proofs.Walking.{Walking}
use Rattle.listing.proofs.put_entries.Given as goal

abbrev pub invariant-loop-entry : goal.invariant-loop-entry
invariant-loop-entry l = (l.entry-iterator.book.now ≡ l.book) × Walking l.book l.initial.out l.out l.from l.at l.entry-iterator.place
