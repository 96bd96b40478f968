-- `stock::stock_withdraw` meets its contract.
use mathlib.Core.Path.{ap}
use native.Mathlib.Omega.{arith}
use Rattle.book.specs.Answers.{Answer}
use Rattle.change.proofs.Answers.{withdraw_within}
use Rattle.stock.proofs.stock_withdraw.Goals as goal

pub signed_number-requires : goal.signed_number-requires
signed_number-requires c =
    let a = c.args in
    omega (arith, ap (λ (x : Answer). x.value) c.withdraw.ensures.0, withdraw_within a.buffer.now a.used a.serial.now)
