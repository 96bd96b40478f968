-- `Section::place` meets its contract.
use mathlib.Core.Path.{sym, ◌∙◌}
use native.Mathlib.Omega.{arith}
use borrow.Author.Tests.{lt-ltb, le-ltb}
use Rattle.serial.proofs.Places.{row_fits}
use Rattle.section.specs.Sections.{placed_in}
use Rattle.section.proofs.Sections.{lies_has}
use Rattle.section.proofs.Section.place.Goals as goal
use Rattle.section.proofs.Section.place.Goals.{else-lies-via-then-lies+else-k-self, else-lies-via-else-lies}

pub overflow_mul-result : goal.overflow_mul-result
overflow_mul-result c =
    let s = c.args.self in
    omega (arith, (lies_has _ s (sym c.lies.ensures ∙ c.if-lies.true)).inside, row_fits s.base s.size {j = c.args.k} {n = s.count} (omega arith))

pub overflow_add-result : goal.overflow_add-result
overflow_add-result c =
    let s = c.args.self in
    omega (arith, (lies_has _ s (sym c.lies.ensures ∙ c.if-lies.true)).inside, row_fits s.base s.size {j = c.args.k} {n = s.count} (omega arith))

pub returns-then-k-self : goal.returns-then-k-self
unfolding placed_in
returns-then-k-self c = simp (sym c.lies.ensures ∙ c.if-lies.true, lt-ltb _ _ c.if-k-self.true)

pub returns-else-lies : goal.returns-else-lies
unfolding placed_in
returns-else-lies c = elim c.else-lies.branch [
  | else-lies-via-then-lies+else-k-self w ↦ simp (sym c.lies.ensures ∙ w.if-lies.true, le-ltb _ _ w.if-k-self.false)
  | else-lies-via-else-lies w ↦ simp (sym c.lies.ensures ∙ w.if-lies.false)
]
