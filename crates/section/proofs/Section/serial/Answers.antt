-- `Section::serial` meets its contract.
use mathlib.Core.Path.{sym, ap, ◌∙◌}
use native.Mathlib.Omega.{arith}
use lib.ListN.{length, take}
use Rattle.section.proofs.Sections.{serial_first, length_entry}
use Rattle.section.proofs.Section.serial.Goals as goal

pub unwrap-requires : goal.unwrap-requires
unwrap-requires c =
    let r = c.requires in
    c.first_chunk.ensures.variant.1 (omega (arith, ap length c.entry.ensures, length_entry _ _ _ r.lies r.within, r.lies.wide))

pub returns : goal.returns
returns c =
    let chunk = rw c.unwrap.ensures at c.first_chunk.ensures.cases in
    chunk.same ∙ ap (take 13) c.entry.ensures ∙ sym (serial_first _ c.args.self c.args.k c.requires.lies.wide)
