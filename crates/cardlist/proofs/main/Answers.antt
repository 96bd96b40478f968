-- `cardlist::main` hands `print` the listing of the bytes that it read.
use Rattle.std.proofs.Common.{ℕ, ◌≤◌, sym, length, arith}
use lib.ListN.{replicate, length-replicate}
use lib.Seq.{length-take-le}
use Rattle.listing.proofs.Lines.{out_within, taken_out}
use Rattle.cardlist.proofs.main.Goals as goal
use Rattle.cardlist.proofs.main.Goals.{After-whole-length}

-- the buffer has room for the listing
room : (c : After-whole-length) → c.whole-length.result ≤ length (replicate {A = ℕ} 205852 0)
room c = omega (arith, c.whole-length.ensures.upper_bound, length-replicate {A = ℕ} 205852 0)

within : (c : After-whole-length) → c.whole-length.result ≤ length c.whole-length.new.out
within c = out_within _ _ _ _ c.whole-length.ensures.value (room c)

pub slice_bounds-text-end : goal.slice_bounds-text-end
slice_bounds-text-end c = within (goal.at.slice_bounds-text-end c).After-whole-length

pub slice_bounds-print-end-2 : goal.slice_bounds-print-end-2
slice_bounds-print-end-2 c = sym (length-take-le _ _ (within (goal.at.slice_bounds-print-end-2 c).After-whole-length))

pub print-requires : goal.print-requires
print-requires c = taken_out (replicate 205852 0) _ _ _ c.whole-length.ensures.value (room (goal.at.print-requires c).After-whole-length)
