-- `stock::read::stock_check` meets its contract.
use mathlib.Core.Path.{ap, ◌∙◌}
use native.Mathlib.Omega.{arith}
use mir.Syntax.{w64}
use mir.Facts.{to_z-of_z}
use Rattle.book.specs.Answers.{Answer}
use Rattle.stock.specs.Signed.{signed}
use Rattle.stock.proofs.Reading.{check_none}
use Rattle.stock.proofs.read.stock_check.Goals as goal

pub signed_number-requires : goal.signed_number-requires
signed_number-requires c = omega (arith, ap (λ (x : Answer). x.value) c.check.ensures, check_none c.args.book.now)

pub returns : goal.returns
returns c = to_z-of_z {w = w64} (record { sfits = c.signed_number.type_inv }) ∙ c.signed_number.ensures ∙ ap signed c.check.ensures
