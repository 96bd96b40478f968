-- Both sections lie in a book of the right size.
use Prim.Native.Nat.{ℕ}
use mathlib.Core.Path.{◌≡◌}
use mathlib.Core.Bool.{true, ◌&&◌}
use mathlib.Core.List.{List}
use native.Mathlib.Omega.{arith}
use lib.ListN.{length}
use lib.Dec.{leb, eqb}
use borrow.Author.Tests.{leb-true, eqb-true}
use Rattle.serial.proofs.Every.{and_left, and_right}
use Rattle.section.specs.Sections.{end_of, Lies, section_ok}
use Rattle.book.specs.Book.{cards, withdrawn, sized, Sized, well_formed}

pub sized_has : (b : List ℕ) → sized b ≡ true → Sized b
unfolding sized
sized_has b e =
    let x = leb (cards b).count 1024 in
    let y = leb (withdrawn b).count 512 in
    let z = eqb (length b) (end_of (withdrawn b)) in
    let xy = and_left (x && y) z e in
    record { few_cards = leb-true _ _ (and_left x y xy); few_withdrawn = leb-true _ _ (and_right x y xy); whole = eqb-true _ _ (and_right (x && y) z e) }

pub cards_lie : (b : List ℕ) → Sized b → Lies b (cards b)
cards_lie b z = record { inside = omega (arith, z.whole); wide = omega arith }

pub withdrawn_lie : (b : List ℕ) → Sized b → Lies b (withdrawn b)
withdrawn_lie b z = record { inside = omega (arith, z.whole); wide = omega arith }

pub formed_sized : (b : List ℕ) → well_formed b ≡ true → Sized b
unfolding well_formed
formed_sized b e = sized_has b (and_left (sized b) (section_ok b (cards b)) (and_left _ (section_ok b (withdrawn b)) e))
