-- What demand 2 asks of lookup, over the definitions that the contracts cite. `proofs/Promises` proves each.
use Rattle.std.specs.Prelude.{ℕ, ◌<◌, ◌≡◌, true, false, List}
use Rattle.serial.specs.Places.{part}
use Rattle.serial.specs.Serials.{is_serial, text_of}
use Rattle.section.specs.Sections.{place_of, entry_at, has}
use Rattle.book.specs.Book.{cards, withdrawn, well_formed}
use Rattle.section.specs.declared.Section.{Section}
use Rattle.book.specs.Answers.{accepted, refused}
use Rattle.lookup.specs.Lookup.{lookup_of}

-- one of the entries of a section has the very digits t
pub record StandsIn (b : List ℕ) (s : Section) (t : List ℕ) : Type 0 where
  pub entry : ℕ
  pub here : entry < s.count
  pub digits : text_of (entry_at b s entry) ≡ t

-- of two facts each gives the other
pub record Exactly (P Q : Type 0) : Type 0 where
  pub to : P → Q
  pub from : Q → P

-- the card that a serial finds has exactly its digits, zeros too ..
abbrev pub ExactDigits : Type 0
ExactDigits = (b t : List ℕ) (n : ℕ) → lookup_of b t ≡ accepted n → text_of (part b n 37) ≡ t

-- .. so two serials never find the same card
abbrev pub OneSerial : Type 0
OneSerial = (b s t : List ℕ) (n : ℕ) → lookup_of b s ≡ accepted n → lookup_of b t ≡ accepted n → s ≡ t

-- and the digits of any card of a well-formed book find it, unless they are withdrawn
abbrev pub EveryCard : Type 0
EveryCard =
    (b : List ℕ) (k : ℕ) → well_formed b ≡ true → k < (cards b).count → has b (withdrawn b) (text_of (entry_at b (cards b) k)) ≡ false
    → lookup_of b (text_of (entry_at b (cards b) k)) ≡ accepted (place_of (cards b) k)

-- 3 is given for a serial in a well-formed book exactly when one of the withdrawn entries has these very digits
abbrev pub ExactlyWithdrawn : Type 0
ExactlyWithdrawn =
    (b t : List ℕ) → is_serial t ≡ true → well_formed b ≡ true → Exactly (lookup_of b t ≡ refused 3) (StandsIn b (withdrawn b) t)

-- and a serial stands among the cards, or among the withdrawn, exactly when one of those entries has its digits
abbrev pub ExactlyStands : Type 0
ExactlyStands =
    (b t : List ℕ) → is_serial t ≡ true → well_formed b ≡ true
    → Exactly (has b (cards b) t ≡ true) (StandsIn b (cards b) t) × Exactly (has b (withdrawn b) t ≡ true) (StandsIn b (withdrawn b) t)
