-- `Section::find` meets its contract.
use mathlib.Core.Path.{sym, ap, ◌∙◌}
use native.Mathlib.Omega.{arith}
use borrow.Author.Tests.{le-ltb}
use Rattle.serial.specs.Serials.{serial_bytes}
use Rattle.section.specs.Sections.{entry_of, find_in, first_found, found_in}
use Rattle.section.proofs.Sections.{lies_has}
use Rattle.section.proofs.Section.find.Goals as goal

pub returns-then-not-lies : goal.returns-then-not-lies
unfolding found_in find_in entry_of
returns-then-not-lies c =
    let n = c.args.self.count in
    simp (sym c.lies.ensures ∙ c.if-not-lies.true, le-ltb n n (omega arith))

pub first-requires : goal.first-requires
first-requires c = lies_has _ _ (sym c.lies.ensures ∙ c.if-not-lies.false)

pub returns : goal.returns
unfolding found_in find_in first_found
returns c =
    simp (sym c.lies.ensures ∙ c.if-not-lies.false) (c.first.ensures ∙ ap (first_found _ _) (c.bytes.ensures ∙ ap serial_bytes c.of.ensures))
