-- `Section::entry` meets its contract.
use Rattle.serial.proofs.Places.{lent}
use Rattle.section.specs.Sections.{entry_at}
use Rattle.section.proofs.Section.entry.Goals as goal

pub returns : goal.returns
unfolding entry_at
returns c = lent _ _ _
