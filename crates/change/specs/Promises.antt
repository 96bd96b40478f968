-- What demand 2 asks of adding and withdrawing, over the definitions that the contracts cite. `proofs/Promises` proves each.
use Rattle.std.specs.Prelude.{ℕ, ◌+◌, ◌<◌, ◌≡◌, true, false, List, ℤ, length, take}
use Rattle.serial.specs.Serials.{is_serial, serial_of, serial_bytes}
use Rattle.card.specs.Fields.{values_fit}
use Rattle.card.specs.Cards.{card_bytes, card_of}
use Rattle.section.specs.Sections.{end_of, entry_at, has}
use Rattle.section.specs.declared.Section.{Section}
use Rattle.book.specs.Book.{cards, withdrawn, well_formed}
use Rattle.book.specs.Answers.{accepted, refused}
use Rattle.lookup.specs.Promises.{StandsIn, Exactly}
use Rattle.lookup.specs.Lookup.{lookup_of, card_part}
use Rattle.change.specs.Change.{book_in, add_answer, added, withdraw_answer, after_withdraw}

-- every serial but t is answered in new as it was in old, its place and its card's bytes too
pub record OthersKept (old new t : List ℕ) : Type 0 where
  pub answer : (u : List ℕ) → (u ≡ t → ⊥) → lookup_of new u ≡ lookup_of old u
  pub card : (u : List ℕ) → (u ≡ t → ⊥) → card_part new u ≡ card_part old u

-- the entries of a section in old stand in new's as they were, byte for byte and in their order, and there are so many more
pub record EntriesKept (old new : List ℕ) (before after : Section) (more : ℕ) : Type 0 where
  pub each : (k : ℕ) → k < before.count → entry_at new after k ≡ entry_at old before k
  pub count : after.count ≡ before.count + more

-- the card of the serial t with the values f was added to the book old, which made new
pub record CardAdded (old new t : List ℕ) (f : List ℤ) : Type 0 where
  pub formed : well_formed new ≡ true
  -- a serial that is not withdrawn finds its card, last among the cards, as it was put in: byte for byte and field for field
  pub found : has old (withdrawn old) t ≡ false → lookup_of new t ≡ accepted (end_of (cards old))
  pub bytes : has old (withdrawn old) t ≡ false → card_part new t ≡ card_bytes (serial_of t) f
  pub fields : has old (withdrawn old) t ≡ false → card_of (card_part new t) ≡ record { serial = serial_of t; fields = f }
  -- a withdrawn serial stays withdrawn
  pub still : has old (withdrawn old) t ≡ true → lookup_of new t ≡ refused 3
  pub others : OthersKept old new t
  -- every card and every withdrawn serial stays
  pub cards_kept : EntriesKept old new (cards old) (cards new) 1
  pub withdrawn_kept : EntriesKept old new (withdrawn old) (withdrawn new) 0

-- the serial t was withdrawn in the book old, which made new
pub record SerialWithdrawn (old new t : List ℕ) : Type 0 where
  pub formed : well_formed new ≡ true
  pub gone : lookup_of new t ≡ refused 3
  pub others : OthersKept old new t
  -- every card stays, that of t too, and every other withdrawn serial; t stands last
  pub cards_kept : EntriesKept old new (cards old) (cards new) 0
  pub withdrawn_kept : EntriesKept old new (withdrawn old) (withdrawn new) 1
  pub last : entry_at new (withdrawn new) (withdrawn old).count ≡ serial_bytes (serial_of t)

-- the book that a change leaves is as long as its answer says
abbrev pub AddKeeps : Type 0
AddKeeps =
    (b : List ℕ) (used : ℕ) (t : List ℕ) (f : List ℤ) → length f ≡ 8 → (add_answer b used t f).number ≡ 0
    → CardAdded (take used b) (take (add_answer b used t f).value (added b used t f)) t f

abbrev pub WithdrawKeeps : Type 0
WithdrawKeeps =
    (b : List ℕ) (used : ℕ) (t : List ℕ) → (withdraw_answer b used t).number ≡ 0
    → SerialWithdrawn (take used b) (take (withdraw_answer b used t).value (after_withdraw b used t)) t

-- 19 is given, where the checks before it pass, exactly when one of the section's entries has these very digits
abbrev pub AddPresent : Type 0
AddPresent =
    (b : List ℕ) (used : ℕ) (t : List ℕ) (f : List ℤ) → is_serial t ≡ true → values_fit f ≡ true → book_in b used ≡ true
    → Exactly (add_answer b used t f ≡ refused 19) (StandsIn (take used b) (cards (take used b)) t)

abbrev pub WithdrawPresent : Type 0
WithdrawPresent =
    (b : List ℕ) (used : ℕ) (t : List ℕ) → is_serial t ≡ true → book_in b used ≡ true
    → Exactly (withdraw_answer b used t ≡ refused 19) (StandsIn (take used b) (withdrawn (take used b)) t)
