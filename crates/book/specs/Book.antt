-- The book: two sections in fixed order, each after its two-byte count, low byte first; and when it is well formed.
use Rattle.std.specs.Prelude.{ℕ, ◌+◌, ◌*◌, ◌≤◌, ◌≡◌, Bool, ◌&&◌, List, length, get_or, leb, eqb}
use Rattle.section.specs.Sections.{end_of, section_ok}
use Rattle.section.specs.declared.Kind.TheVariants.{Cards, Serials}
use Rattle.section.specs.declared.Section.{Section}

-- a count: two bytes, low byte first
unfoldable pub count_at : List ℕ → ℕ → ℕ
count_at b at = get_or b at 0 + 256 * get_or b (at + 1) 0

-- the cards, 37 bytes each
abbrev pub cards : List ℕ → Section
cards b = record { kind = Cards; base = 2; size = 37; count = count_at b 0 }

-- the withdrawn serials, 13 bytes each
abbrev pub withdrawn : List ℕ → Section
withdrawn b = record { kind = Serials; base = end_of (cards b) + 2; size = 13; count = count_at b (end_of (cards b)) }

-- a book of the right size: at most 1,024 cards and 512 withdrawn serials, and the book ends after them
pub record Sized (b : List ℕ) : Type 0 where
  pub few_cards : (cards b).count ≤ 1024
  pub few_withdrawn : (withdrawn b).count ≤ 512
  pub whole : length b ≡ end_of (withdrawn b)

-- the same as a test
unfoldable pub sized : List ℕ → Bool
sized b = leb (cards b).count 1024 && leb (withdrawn b).count 512 && eqb (length b) (end_of (withdrawn b))

-- a well-formed book
unfoldable pub well_formed : List ℕ → Bool
well_formed b = sized b && section_ok b (cards b) && section_ok b (withdrawn b)
