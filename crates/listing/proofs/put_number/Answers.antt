-- `listing::put_number` meets its contract.
use mathlib.Core.Path.{◌≡◌, ap, ◌∙◌}
use lib.ListN.{drop}
use mir.Facts.{to_z-of_z}
use Rattle.decimal.specs.declared.Text.{Text}
use Rattle.decimal.specs.Decimals.{signed_decimal}
use Rattle.decimal.proofs.Shown.{text_is}
use Rattle.listing.proofs.put_number.Goals as goal
use Rattle.listing.proofs.put_number.Goals.{After-text}

-- the text lent is the number in decimal
lent : (c : After-text) → c.text.result.now ≡ signed_decimal c.args.v
lent c = c.text.ensures.value ∙ ap (λ (t : Text). drop t.from t.bytes) (rw (to_z-of_z c.ranges.v) at c.number_text.ensures) ∙ text_is c.ranges.v

pub put_text-requires : goal.put_text-requires
put_text-requires c = rw (lent c) c.requires

pub returns : goal.returns
returns c = rw (lent (goal.at.returns c).After-text) at c.put_text.ensures
