-- The items that a step has.
use Prim.Native.Nat.{ℕ, zero, suc}
use mathlib.Core.Path.{◌≡◌, refl}
use lib.ListN.{get_or}
use Rattle.console.specs.declared.words.Word.{Word}
use Rattle.console.specs.declared.words.Word.TheVariants.{Start, Open, Write, Commit, Drop, Hold, Read, Poll, Block, Reset, Cards, Help, Other}
use Rattle.console.specs.declared.words.Kind.TheVariants as kind
use Rattle.console.specs.Words.{items_of}

-- a word that has no item but one number
pub plain_number_by_words :
    (w : Word) (k : ℕ) → (w ≡ Start → ⊥) → (w ≡ Write → ⊥) → (w ≡ Read → ⊥) → (w ≡ Poll → ⊥) → get_or (items_of w) k kind.Number ≡ kind.Number
unfolding items_of
plain_number_by_words Start k s r e p = absurd (s refl)
plain_number_by_words Open zero s r e p = refl
plain_number_by_words Open (suc k) s r e p = refl
plain_number_by_words Write k s r e p = absurd (r refl)
plain_number_by_words Commit zero s r e p = refl
plain_number_by_words Commit (suc k) s r e p = refl
plain_number_by_words Drop zero s r e p = refl
plain_number_by_words Drop (suc k) s r e p = refl
plain_number_by_words Hold zero s r e p = refl
plain_number_by_words Hold (suc k) s r e p = refl
plain_number_by_words Read k s r e p = absurd (e refl)
plain_number_by_words Poll k s r e p = absurd (p refl)
plain_number_by_words Block k s r e p = refl
plain_number_by_words Reset zero s r e p = refl
plain_number_by_words Reset (suc k) s r e p = refl
plain_number_by_words Cards k s r e p = refl
plain_number_by_words Help k s r e p = refl
plain_number_by_words Other k s r e p = refl
