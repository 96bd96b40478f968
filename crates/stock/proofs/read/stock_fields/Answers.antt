-- `stock::read::stock_fields` meets its contract.
use mathlib.Core.Path.{ap}
use native.Mathlib.Omega.{arith}
use lib.ListN.{length}
use Rattle.book.specs.Answers.{Answer}
use Rattle.stock.proofs.Reading.{fields_within}
use Rattle.stock.proofs.read.stock_fields.Goals as goal

pub signed_number-requires : goal.signed_number-requires
signed_number-requires c =
    let a = c.args in
    omega (arith, ap (λ (x : Answer). x.value) c.put_fields.ensures.0, fields_within a.card.now (length a.fields.now))
