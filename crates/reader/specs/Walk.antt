-- What a reader finds at a place of a book, and where it goes on.
use Rattle.std.specs.Prelude.{ℕ, zero, suc, ◌+◌, ◌-◌, cond, List, eqb, leb, ltb, length, Option, Some, None}
use Rattle.std.specs.Iterator.{Count, at_most}
use Rattle.section.specs.Sections.{end_of}
use Rattle.book.specs.Book.{cards, withdrawn}
use Rattle.reader.specs.declared.Kind.{Kind}
use Rattle.reader.specs.declared.Kind.TheVariants.{Card, Withdrawn}
use Rattle.reader.specs.declared.Entry.{Entry}
use Rattle.reader.specs.declared.Reader.{Reader}

-- what a reader finds at its place, and the place at which it stands afterwards
pub record Step : Type 0 where
  pub found : Option Entry
  pub next : ℕ

-- behind the last card stands the count of the withdrawn serials, two bytes, which is passed over
abbrev pub past_count : ℕ → ℕ → ℕ
past_count at end = cond (eqb at end) (at + 2) at

-- nothing more: the reader stays
abbrev pub no_step : ℕ → Step
no_step at = record { found = None; next = at }

-- an entry of so many bytes, where the bytes are there
unfoldable pub entry_step : Kind → ℕ → ℕ → ℕ → Step
entry_step kind size len at = cond (leb (at + size) len) (record { found = Some (record { kind = kind; at = at }); next = at + size }) (no_step at)

-- what stands in a book at a place
unfoldable pub step_at : List ℕ → ℕ → Step
step_at b at =
    let p = past_count at (end_of (cards b)) in
    cond (ltb p (end_of (cards b))) (entry_step Card 37 (length b) p)
    (cond (ltb p (end_of (withdrawn b))) (entry_step Withdrawn 13 (length b) p) (no_step p))

-- what a reader finds that starts behind the count of the cards and has gone on so many times
unfoldable pub step_after : List ℕ → ℕ → Step
step_after b zero = step_at b 2
step_after b (suc k) = step_at b (step_after b k).next

-- no more entries come than there are bytes from the reader's place on
abbrev pub ahead : Reader → Count
ahead r = at_most (length r.book.now - r.place)
