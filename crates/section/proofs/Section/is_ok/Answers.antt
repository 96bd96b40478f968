-- `Section::is_ok` meets its contract.
use mathlib.Core.Path.{sym, ◌∙◌}
use mathlib.Core.Bool.{false≢true}
use Rattle.section.specs.Sections.{section_ok}
use Rattle.section.proofs.Sections.{lies_has}
use Rattle.section.proofs.Section.is_ok.Goals as goal
use Rattle.section.proofs.Section.is_ok.Goals.{then-lies, else-lies}

pub entries_ok-requires : goal.entries_ok-requires
entries_ok-requires c = lies_has _ _ (sym c.lies.ensures ∙ c.if-lies.true)

pub distinct-requires : goal.distinct-requires
distinct-requires c = elim c.if-lies.branch [
  | then-lies w ↦ lies_has _ _ (sym c.lies.ensures ∙ w.if-lies.true)
  | else-lies w ↦ absurd (false≢true (sym w.if-lies.false ∙ sym w.value-is ∙ c.if-entries_ok.true))
]

pub returns-then-entries_ok : goal.returns-then-entries_ok
unfolding section_ok
returns-then-entries_ok c = elim c.if-lies.branch [
  | then-lies w ↦ simp (sym c.lies.ensures ∙ w.if-lies.true, sym w.entries_ok.ensures ∙ sym w.value-is ∙ c.if-entries_ok.true) c.distinct.ensures
  | else-lies w ↦ absurd (false≢true (sym w.if-lies.false ∙ sym w.value-is ∙ c.if-entries_ok.true))
]

pub returns-else-entries_ok : goal.returns-else-entries_ok
unfolding section_ok
returns-else-entries_ok c = elim c.if-lies.branch [
  | then-lies w ↦ simp (sym c.lies.ensures ∙ w.if-lies.true, sym w.entries_ok.ensures ∙ sym w.value-is ∙ c.if-entries_ok.false) c.if-entries_ok.false
  | else-lies w ↦ simp (sym c.lies.ensures ∙ w.if-lies.false) c.if-entries_ok.false
]
