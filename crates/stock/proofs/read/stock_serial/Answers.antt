-- `stock::read::stock_serial` meets its contract.
use mathlib.Core.Path.{ap}
use native.Mathlib.Omega.{arith}
use lib.ListN.{length}
use Rattle.book.specs.Answers.{Answer}
use Rattle.stock.proofs.Reading.{serial_within}
use Rattle.stock.proofs.read.stock_serial.Goals as goal

pub signed_number-requires : goal.signed_number-requires
signed_number-requires c =
    let a = c.args in
    omega (arith, ap (λ (x : Answer). x.value) c.put_digits.ensures.0, serial_within a.entry.now (length a.text.now))
