-- Each refusal is the one with its number, and a number that is no refusal's has no words.
use Prim.Native.Nat.{ℕ}
use mathlib.Core.Path.{◌≡◌, refl, sym, ap, ◌∙◌}
use mathlib.Core.Bool.{Bool, true, false, ◌||◌}
use mathlib.Core.List.{List, [], ◌∷◌}
use Rattle.std.specs.Prelude.{Option, Some, None, cond}
use native.Mathlib.Omega.{arith}
use lib.Dec.{eqb, leb}
use lib.ListN.{length}
use borrow.Author.Tests.{eqb-true, leb-true, leb-false}
use Rattle.serial.specs.Every.{every}
use Rattle.serial.proofs.Every.{every_at}
use Rattle.serial.specs.Ascii.{ascii}
use Rattle.refusal.specs.declared.Refusal.{Refusal}
use Rattle.refusal.specs.declared.Refusal.TheVariants as refusal
use Rattle.refusal.specs.Numbers.{number_of, refusals, with_number, numbered}
use Rattle.refusal.specs.Words.{table, words_of}
use Rattle.refusal.proofs.Rows.{no_words}

found_by : (n : ℕ) (q r : Refusal) (rest : Option Refusal) → (rest ≡ Some r → number_of r ≡ n) → (t : Bool) → eqb n (number_of q) ≡ t →
    cond t (Some q) rest ≡ Some r → number_of r ≡ n
found_by n q r rest f true h e = let s : q ≡ r = cc in ap number_of (sym s) ∙ sym (eqb-true n (number_of q) h)
found_by n q r rest f false h e = f e

found_has : (n : ℕ) (rs : List Refusal) (r : Refusal) → with_number n rs ≡ Some r → number_of r ≡ n
found_has n [] r e = cc
found_has n (q ∷ qs) r e = found_by n q r (with_number n qs) (found_has n qs r) (eqb n (number_of q)) refl e

-- a refusal that has a number has that one
pub number_of_found : (n : ℕ) (r : Refusal) → numbered n ≡ Some r → number_of r ≡ n
number_of_found n r = found_has n refusals r

is_some : Option Refusal → Bool
is_some None = false
is_some (Some r) = true

-- and is the one that has it
pub numbered_back : (r : Refusal) → numbered (number_of r) ≡ Some r
numbered_back refusal.NotSerial = refl
numbered_back refusal.Malformed = refl
numbered_back refusal.Withdrawn = refl
numbered_back refusal.NoCard = refl
numbered_back refusal.BlockSize = refl
numbered_back refusal.SampleRange = refl
numbered_back refusal.StartRange = refl
numbered_back refusal.NoPort = refl
numbered_back refusal.PortOpen = refl
numbered_back refusal.PortShut = refl
numbered_back refusal.NoField = refl
numbered_back refusal.ValueRange = refl
numbered_back refusal.FieldMissing = refl
numbered_back refusal.NoInterval = refl
numbered_back refusal.NothingHeld = refl
numbered_back refusal.NoRegister = refl
numbered_back refusal.SlotOff = refl
numbered_back refusal.NoCardYet = refl
numbered_back refusal.Present = refl
numbered_back refusal.Full = refl
numbered_back refusal.NoRoom = refl

-- two with the same number are the same
pub same_number : (q r : Refusal) → number_of q ≡ number_of r → q ≡ r
same_number q r e = let s : Some q ≡ Some r = sym (numbered_back q) ∙ ap numbered e ∙ numbered_back r in cc

-- every number below 22 is a refusal's or has no words
unfoldable row_ok : ℕ → Bool
row_ok n = is_some (numbered n) || eqb (length (words_of n)) 0

covered : every row_ok 22 ≡ true
unfolding every row_ok words_of table ascii is_some
covered = refl

nil_of : (t : List ℕ) → length t ≡ 0 → t ≡ []
nil_of [] e = refl
nil_of (x ∷ xs) e = absurd (omega arith)

-- a number that is no refusal's has no words
pub none_numbered : (n : ℕ) → numbered n ≡ None → words_of n ≡ []
unfolding row_ok is_some
none_numbered n e = by (leb 22 n) refl
  where
    by : (t : Bool) → leb 22 n ≡ t → words_of n ≡ []
    by true h = no_words n (leb-true 22 n h)
    by false h =
        let k = every_at row_ok 22 covered n (leb-false 22 n h) in
        let z : eqb (length (words_of n)) 0 ≡ true = rw e at k in
        nil_of _ (eqb-true _ _ z)
