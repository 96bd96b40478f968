-- `Kind::fits` meets its contract.
use mathlib.Core.Path.{sym, ap, ◌∙◌}
use Rattle.section.specs.Sections.{entry_ok}
use Rattle.section.specs.declared.Kind.{Kind}
use Rattle.section.proofs.Kind.fits.Goals as goal

pub returns-in-Cards : goal.returns-in-Cards
unfolding entry_ok
returns-in-Cards c = c.is_card.ensures ∙ sym (ap (λ (k : Kind). entry_ok k c.args.entry.now) c.in-Cards.is)

pub returns-in-Serials : goal.returns-in-Serials
unfolding entry_ok
returns-in-Serials c = c.holds_serial.ensures ∙ sym (ap (λ (k : Kind). entry_ok k c.args.entry.now) c.in-Serials.is)
