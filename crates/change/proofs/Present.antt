-- 19 is given exactly when one of the section's entries has the digits.
use Prim.Native.Nat.{ℕ, ◌+◌}
use mathlib.Core.Path.{◌≡◌, refl, ap}
use mathlib.Core.Bool.{Bool, true, false}
use mathlib.Core.List.{List}
use native.Mathlib.Omega.{arith}
use lib.Dec.{leb, ltb}
use lib.ListN.{length, take}
use Rattle.serial.proofs.Every.{and_right}
use Rattle.section.specs.Sections.{has}
use Rattle.section.specs.declared.Section.{Section}
use Rattle.book.specs.Book.{cards, withdrawn, well_formed}
use Rattle.book.specs.Answers.{Answer, refused}
use Rattle.lookup.proofs.Stands.{exactly_stands}
use Rattle.change.specs.Change.{book_in, room_for, add_answer, withdraw_answer}
use Rattle.change.specs.Promises.{AddPresent, WithdrawPresent}

-- where the serial is not there, another answer is given
other_number : (b : List ℕ) (s : Section) (limit : ℕ) (t : List ℕ) (room : ℕ) → has b s t ≡ false
    → (x y : Bool) → ltb s.count limit ≡ x → leb (length b + s.size) room ≡ y → (room_for b s limit t room).number ≡ 19 → ⊥
unfolding room_for
other_number b s limit t room h true true p q e = let n : (room_for b s limit t room).number ≡ 0 = simp (h, p, q) in omega (arith, n, e)
other_number b s limit t room h true false p q e = let n : (room_for b s limit t room).number ≡ 21 = simp (h, p, q) in omega (arith, n, e)
other_number b s limit t room h false y p q e = let n : (room_for b s limit t room).number ≡ 20 = simp (h, p) in omega (arith, n, e)

there : (b : List ℕ) (s : Section) (limit : ℕ) (t : List ℕ) (room : ℕ) → room_for b s limit t room ≡ refused 19 → has b s t ≡ true
there b s limit t room e = by (has b s t) refl
  where
    by : (x : Bool) → has b s t ≡ x → has b s t ≡ true
    by true h = h
    by false h = absurd (other_number b s limit t room h (ltb s.count limit) (leb (length b + s.size) room) refl refl (ap (λ (a : Answer). a.number) e))

formed : (b : List ℕ) (used : ℕ) → book_in b used ≡ true → well_formed (take used b) ≡ true
unfolding book_in
formed b used h = and_right (leb used (length b)) (well_formed (take used b)) h

pub add_present : AddPresent
unfolding add_answer room_for
add_present b used t f tok values book =
    let w = (exactly_stands (take used b) t tok (formed b used book)).0 in
    record {
      to = λ e. w.to (there (take used b) (cards (take used b)) 1024 t (length b) (simp (tok, values, book) at e));
      from = λ i. simp (tok, values, book, w.from i);
    }

pub withdraw_present : WithdrawPresent
unfolding withdraw_answer room_for
withdraw_present b used t tok book =
    let w = (exactly_stands (take used b) t tok (formed b used book)).1 in
    record {
      to = λ e. w.to (there (take used b) (withdrawn (take used b)) 512 t (length b) (simp (tok, book) at e));
      from = λ i. simp (tok, book, w.from i);
    }
