-- What is promised of the walk: from the start it gives exactly the book's cards in order, then its withdrawn serials, then the end.
use Rattle.std.specs.Prelude.{ℕ, ◌+◌, ◌<◌, ◌≤◌, ◌≡◌, true, List, Some, None}
use Rattle.section.specs.Sections.{place_of}
use Rattle.book.specs.Book.{cards, withdrawn, well_formed}
use Rattle.reader.specs.declared.Kind.TheVariants.{Card, Withdrawn}
use Rattle.reader.specs.Walk.{step_after}

pub record WalksWhole (b : List ℕ) : Type 0 where
  -- step k finds card k, at its place
  pub each_card : (k : ℕ) → k < (cards b).count →
      step_after b k ≡ record { found = Some (record { kind = Card; at = place_of (cards b) k }); next = place_of (cards b) (k + 1) }
  -- behind the cards, step j more finds withdrawn serial j
  pub each_serial : (j : ℕ) → j < (withdrawn b).count →
      step_after b ((cards b).count + j) ≡ record { found = Some (record { kind = Withdrawn; at = place_of (withdrawn b) j }); next = place_of (withdrawn b) (j + 1) }
  -- and behind those there is the end, however long the reader goes on
  pub then_none : (n : ℕ) → (cards b).count + (withdrawn b).count ≤ n → (step_after b n).found ≡ None

abbrev pub Promise : Type 0
Promise = (b : List ℕ) → well_formed b ≡ true → WalksWhole b
