-- `Line::then_number` meets its contract.
use mathlib.Core.Path.{◌≡◌, ap, ◌∙◌}
use native.Mathlib.Omega.{arith}
use lib.ListN.{drop}
use mir.Facts.{to_z-of_z}
use Rattle.decimal.specs.declared.Text.{Text}
use Rattle.decimal.specs.Decimals.{signed_decimal}
use Rattle.decimal.proofs.Shown.{text_is, at_most_twenty}
use Rattle.counter.proofs.line.Line.then_number.Goals as goal
use Rattle.counter.proofs.line.Line.then_number.Goals.{After-text}

-- the text lent is the number in decimal
lent : (c : After-text) → c.text.result.now ≡ signed_decimal c.args.v
lent c = c.text.ensures.value ∙ ap (λ (t : Text). drop t.from t.bytes) (rw (to_z-of_z c.ranges.v) at c.number_text.ensures) ∙ text_is c.ranges.v

pub then-requires : goal.then-requires
then-requires c = rw (lent c) (omega (arith, at_most_twenty c.ranges.v))

pub returns : goal.returns
returns c =
    let e = rw (lent (goal.at.returns c).After-text) at c.then.ensures in
    (e.0, omega (arith, e.1, at_most_twenty c.ranges.v))
