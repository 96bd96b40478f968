-- A listing made by a walk of the book has the lines of the definition.
use Prim.Native.Nat.{ℕ, zero, suc, ◌+◌, ◌<◌}
use mathlib.Core.Path.{◌≡◌, refl, sym, ap, ◌∙◌}
use mathlib.Core.Bool.{true}
use mathlib.Core.List.{List, ◌++◌, append-nil, append_assoc}
use native.Mathlib.Omega.{arith}
use Rattle.section.specs.Sections.{entry_at}
use Rattle.book.specs.Book.{cards, withdrawn, well_formed}
use Rattle.reader.specs.Walk.{Step, step_after}
use Rattle.reader.proofs.Promise.{promise}
use Rattle.listing.specs.Lines.{card_line, withdrawn_line, lines, entries_text, line_at, found_text, WalkedListing}

-- lines that agree one by one agree together
lines_same : (p q : ℕ → List ℕ) (n : ℕ) → ((k : ℕ) → k < n → p k ≡ q k) → lines p n ≡ lines q n
unfolding lines
lines_same p q zero h = refl
lines_same p q (suc n) h = rw (lines_same p q n (λ k l. h k (omega arith)), h n (omega arith))

-- lines of two parts, one behind the other
lines_apart : (p : ℕ → List ℕ) (n m : ℕ) → lines p (n + m) ≡ lines p n ++ lines (λ (j : ℕ). p (n + j)) m
unfolding lines
lines_apart p n zero = let z : n + 0 ≡ n = omega arith in ap (lines p) z ∙ sym (append-nil (lines p n))
lines_apart p n (suc m) =
    let z : n + suc m ≡ suc (n + m) = omega arith in
    ap (lines p) z ∙ ap (λ (l : List ℕ). l ++ p (n + m)) (lines_apart p n m) ∙ append_assoc (lines p n) (lines (λ (j : ℕ). p (n + j)) m) (p (n + m))

module _ (b : List ℕ) (formed : well_formed b ≡ true) where
  -- the line of step k
  abbrev step_text : ℕ → List ℕ
  step_text k = found_text b (step_after b k).found

  card_walked : (k : ℕ) → k < (cards b).count → step_text k ≡ card_line b k
  unfolding found_text line_at card_line entry_at
  card_walked k h = ap (λ (s : Step). found_text b s.found) ((promise b formed).each_card k h)

  serial_walked : (j : ℕ) → j < (withdrawn b).count → step_text ((cards b).count + j) ≡ withdrawn_line b j
  unfolding found_text line_at withdrawn_line entry_at
  serial_walked j h = ap (λ (s : Step). found_text b s.found) ((promise b formed).each_serial j h)

pub walked_listing : WalkedListing
unfolding entries_text
walked_listing b formed =
    lines_apart (step_text b formed) (cards b).count (withdrawn b).count
    ∙ ap (λ (l : List ℕ). l ++ lines (λ (j : ℕ). step_text b formed ((cards b).count + j)) (withdrawn b).count)
    (lines_same _ (card_line b) (cards b).count (card_walked b formed))
    ∙ ap (λ (l : List ℕ). lines (card_line b) (cards b).count ++ l) (lines_same _ (withdrawn_line b) (withdrawn b).count (serial_walked b formed))
