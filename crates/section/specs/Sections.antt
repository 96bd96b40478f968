-- A section of the book: entries of one size, one after another. Each begins with the 13 bytes of a serial.
use Rattle.std.specs.Prelude.{ℕ, ◌+◌, ◌*◌, ◌≤◌, Bool, cond, not, ◌&&◌, Option, Some, None, List, length, get_or, leb, ltb, eqb}
use Rattle.serial.specs.Every.{every, first}
use Rattle.serial.specs.Places.{part}
use Rattle.serial.specs.Serials.{serial_of, serial_bytes, holds_serial}
use Rattle.card.specs.Cards.{is_card}
use Rattle.section.specs.declared.Kind.{Kind}
use Rattle.section.specs.declared.Kind.TheVariants.{Cards, Serials}
use Rattle.section.specs.declared.Section.{Section}

-- the place of entry k, from 0
abbrev pub place_of : Section → ℕ → ℕ
place_of s k = s.base + k * s.size

-- where the section ends
abbrev pub end_of : Section → ℕ
end_of s = place_of s s.count

-- the section lies in the bytes, and each entry has room for a serial
pub record Lies (b : List ℕ) (s : Section) : Type 0 where
  pub inside : end_of s ≤ length b
  pub wide : 13 ≤ s.size

-- the same as a test
unfoldable pub lies : List ℕ → Section → Bool
lies b s = leb 13 s.size && leb (end_of s) (length b)

-- the bytes of entry k, and the 13 of its serial
unfoldable pub entry_at : List ℕ → Section → ℕ → List ℕ
entry_at b s k = part b (place_of s k) s.size

unfoldable pub serial_at : List ℕ → Section → ℕ → List ℕ
serial_at b s k = part b (place_of s k) 13

-- ---- what every entry must be: a card, or a serial
unfoldable pub entry_ok : Kind → List ℕ → Bool
entry_ok Cards e = is_card e
entry_ok Serials e = holds_serial e

-- each entry of the section is such a one
unfoldable pub entries_ok : List ℕ → Section → Bool
entries_ok b s = every (λ (k : ℕ). entry_ok s.kind (entry_at b s k)) s.count

-- ---- no serial twice
-- two serials are the same: all 13 bytes, the length and every digit
unfoldable pub same : List ℕ → List ℕ → Bool
same x y = every (λ (k : ℕ). eqb (get_or x k 0) (get_or y k 0)) 13

-- no entry before entry j has its serial
unfoldable pub fresh : List ℕ → Section → ℕ → Bool
fresh b s j = every (λ (i : ℕ). not (same (serial_at b s i) (serial_at b s j))) j

-- no serial stands twice within the section
unfoldable pub distinct : List ℕ → Section → Bool
distinct b s = every (fresh b s) s.count

-- the check of a section: it lies in the bytes, each entry is right, and no serial stands twice
unfoldable pub section_ok : List ℕ → Section → Bool
section_ok b s = lies b s && entries_ok b s && distinct b s

-- ---- the search
-- the first entry with the 13 bytes x, or the count where there is none
unfoldable pub first_of : List ℕ → Section → List ℕ → ℕ
first_of b s x = first (λ (k : ℕ). same (serial_at b s k) x) s.count

-- the first entry with the serial t, or the count; in a section that does not lie in the bytes there is none
unfoldable pub find_in : List ℕ → Section → List ℕ → ℕ
find_in b s t = cond (lies b s) (first_of b s (serial_bytes (serial_of t))) s.count

-- the entry that a number below the count is; the count is none
unfoldable pub entry_of : Section → ℕ → Option ℕ
entry_of s k = cond (ltb k s.count) (Some k) None

-- the same two searches, as an entry that is found or none
unfoldable pub first_found : List ℕ → Section → List ℕ → Option ℕ
first_found b s x = entry_of s (first_of b s x)

unfoldable pub found_in : List ℕ → Section → List ℕ → Option ℕ
found_in b s t = entry_of s (find_in b s t)

-- the serial t stands in the section
unfoldable pub has : List ℕ → Section → List ℕ → Bool
has b s t = ltb (find_in b s t) s.count

-- ---- the walk: the place of entry k, and 0, where no entry is, past the last or in a section that does not lie in the bytes
unfoldable pub place_in : List ℕ → Section → ℕ → ℕ
place_in b s k = cond (lies b s && ltb k s.count) (place_of s k) 0

-- the same, as a place or none
unfoldable pub placed_in : List ℕ → Section → ℕ → Option ℕ
placed_in b s k = cond (lies b s && ltb k s.count) (Some (place_of s k)) None
