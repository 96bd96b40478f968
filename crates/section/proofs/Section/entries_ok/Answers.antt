-- `Section::entries_ok` meets its contract: each of k entries is what it must be.
use mathlib.Core.Path.{◌≡◌, sym, ap, ◌∙◌}
use native.Mathlib.Omega.{arith}
use Rattle.serial.proofs.Every.{every_none, every_more, every_fails}
use Rattle.section.specs.Sections.{entry_ok, entries_ok}
use Rattle.section.proofs.Section.entries_ok.Goals as goal

pub loop-k-init : goal.loop-k-init
loop-k-init c = every_none _

pub returns-then-not-fits : goal.returns-then-not-fits
unfolding entries_ok
returns-then-not-fits c =
    sym (every_fails _ _ c.loop-k.k c.loop-k-test.true (ap (entry_ok _) (sym c.entry.ensures) ∙ sym c.fits.ensures ∙ c.if-not-fits.true))

pub loop-k-preserved : goal.loop-k-preserved
loop-k-preserved c = every_more _ _ c.loop-k.invariant (ap (entry_ok _) (sym c.entry.ensures) ∙ sym c.fits.ensures ∙ c.if-not-fits.false)

pub returns : goal.returns
unfolding entries_ok
returns c =
    let e : c.loop-k.k ≡ c.args.self.count = omega arith in
    sym (rw e at c.loop-k.invariant)
