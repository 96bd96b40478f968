-- `print_listing` hands `print` the listing of the book.
use Rattle.std.proofs.Common.{ℕ, ◌≤◌, sym, length, arith}
use lib.ListN.{replicate, length-replicate}
use lib.Seq.{length-take-le}
use Rattle.listing.proofs.Lines.{out_within, taken_out}
use Rattle.counter.proofs.list.print_listing.Given.{Over}
use Rattle.counter.proofs.list.print_listing.Goals as goal
use Rattle.counter.proofs.list.print_listing.Goals.{After-whole-length}

-- the buffer has room for the listing
room : (g : Over) (c : After-whole-length g) → c.whole-length.result ≤ length (replicate {A = ℕ} 205852 0)
room g c = omega (arith, c.whole-length.ensures.upper_bound, length-replicate {A = ℕ} 205852 0)

within : (g : Over) (c : After-whole-length g) → c.whole-length.result ≤ length c.whole-length.new.out
within g c = out_within _ _ _ _ c.whole-length.ensures.value (room g c)

pub slice_bounds-text-end : goal.slice_bounds-text-end
slice_bounds-text-end g c = within g (goal.at.slice_bounds-text-end g c).After-whole-length

pub slice_bounds-print-end : goal.slice_bounds-print-end
slice_bounds-print-end g c = sym (length-take-le _ _ (within g (goal.at.slice_bounds-print-end g c).After-whole-length))

pub print-requires : goal.print-requires
print-requires g c = taken_out (replicate 205852 0) _ _ _ c.whole-length.ensures.value (room g (goal.at.print-requires g c).After-whole-length)
