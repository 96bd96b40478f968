-- `book::count_at` meets its contract.
use native.Mathlib.Omega.{arith}
use Rattle.book.specs.Book.{count_at}
use Rattle.book.proofs.count_at.Goals as goal

pub returns : goal.returns
unfolding count_at
returns c = rw (← c.byte_at.ensures, ← c.byte_at-2.ensures) (omega (arith, c.from.ensures, c.from_le_bytes.ensures), omega (arith, c.from.ensures))
