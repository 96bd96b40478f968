-- `listing::put_text` meets its contract.
use mathlib.Core.Path.{◌≡◌, refl, ◌∙◌}
use native.Mathlib.Omega.{arith}
use lib.ListN.{length}
use Rattle.serial.proofs.Places.{put_fits}
use borrow.Author.Rules.{rules}
use Rattle.listing.proofs.put_text.Goals as goal

pub returns : goal.returns
returns c =
    let a = c.args in
    let whole : length a.out.now ≡ 205852 = search rules in
    (record { line = c.put_at.ensures ∙ put_fits a.out.now a.text.now a.at (omega arith); place = refl }, whole)
