-- `shown` meets its contract.
use mathlib.Core.Path.{◌≡◌, ◌∙◌}
use native.Mathlib.Omega.{arith}
use lib.ListN.{length}
use mir.Facts.{to_z-of_z}
use mir.Syntax.{w64}
use Rattle.number.proofs.Fits.{read32}
use Rattle.port.proofs.Registers.{at_figure, at_plus, at_minus}
use borrow.Author.Rules.{rules, sfits_of}
use Rattle.port.proofs.shown.Goals as goal
use Rattle.port.proofs.shown.Goals.{Start}

figures : (c : Start) → length c.args.s.figures ≡ 6
figures c = search rules

pub returns-then-k-lt6 : goal.returns-then-k-lt6
returns-then-k-lt6 c =
    to_z-of_z {w = w64} (sfits_of c.of_six.type_inv) ∙ c.of_six.ensures ∙ at_figure c.args.s (figures (goal.at.returns-then-k-lt6 c).Start) c.args.k (omega arith)

pub returns-then-k-eq6 : goal.returns-then-k-eq6
returns-then-k-eq6 c =
    read32 c.args.s.plus.count (search rules) ∙ at_plus c.args.s (figures (goal.at.returns-then-k-eq6 c).Start) c.args.k (omega arith)

pub returns : goal.returns
returns c =
    read32 c.args.s.minus.count (search rules) ∙ at_minus c.args.s (figures (goal.at.returns c).Start) c.args.k (omega arith)
