-- `lookup::lookup` meets its contract.
use mathlib.Core.Path.{◌≡◌, sym, ◌∙◌}
use mathlib.Core.Bool.{true}
use Rattle.serial.specs.Serials.{is_serial}
use Rattle.book.specs.Book.{well_formed}
use Rattle.lookup.specs.Lookup.{lookup_of}
use Rattle.lookup.proofs.lookup.Goals as goal
use Rattle.lookup.proofs.lookup.Goals.{After-is_book, Else-not-is_book}

pub returns-then-not-is_serial : goal.returns-then-not-is_serial
unfolding lookup_of
returns-then-not-is_serial c = simp (sym c.is_serial.ensures ∙ c.if-not-is_serial.true)

text : (c : After-is_book) → is_serial c.args.text.now ≡ true
text c = sym c.is_serial.ensures ∙ c.if-not-is_serial.false

formed : (c : Else-not-is_book) → well_formed c.args.book.now ≡ true
formed c = sym c.is_book.ensures ∙ c.if-not-is_book.false

pub returns-then-not-is_book : goal.returns-then-not-is_book
unfolding lookup_of
returns-then-not-is_book c = simp (text (goal.at.returns-then-not-is_book c).After-is_book, sym c.is_book.ensures ∙ c.if-not-is_book.true)

pub returns : goal.returns
unfolding lookup_of
returns c = simp (text (goal.at.returns c).After-is_book, formed (goal.at.returns c).Else-not-is_book) c.seek.ensures
