-- `stock::stock_lookup` meets its contract.
use mathlib.Core.Path.{ap}
use native.Mathlib.Omega.{arith}
use Rattle.book.specs.Answers.{Answer}
use Rattle.lookup.proofs.Answers.{lookup_within}
use Rattle.stock.proofs.stock_lookup.Goals as goal

pub signed_number-requires : goal.signed_number-requires
signed_number-requires c =
    let a = c.args in
    omega (arith, ap (λ (x : Answer). x.value) c.lookup.ensures, lookup_within a.book.now a.serial.now)
