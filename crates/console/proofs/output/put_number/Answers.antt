-- `put_number` puts a number.
use mathlib.Core.Path.{ap, ◌∙◌}
use native.Mathlib.Omega.{arith}
use lib.ListN.{drop}
use mir.Facts.{to_z-of_z}
use Rattle.decimal.specs.declared.Text.{Text}
use Rattle.decimal.proofs.Shown.{at_most_twenty, text_is}
use Rattle.console.proofs.output.put_number.Goals as goal

pub returns : goal.returns
returns c =
    let made = rw (to_z-of_z c.ranges.v) at c.number_text.ensures in
    let shown = c.text.ensures.value ∙ ap (λ (t : Text). drop t.from t.bytes) made ∙ text_is c.ranges.v in
    let e = rw shown at c.put.ensures in
    (e.0, omega (arith, e.1, at_most_twenty c.ranges.v))
