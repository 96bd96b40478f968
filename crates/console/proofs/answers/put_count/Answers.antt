-- `put_count` puts a count behind a space.
use native.Mathlib.Omega.{arith}
use lib.ListN.{take}
use Rattle.number.proofs.Fits.{read32}
use Rattle.decimal.specs.Decimals.{decimal, signed_decimal}
use Rattle.serial.specs.Ascii.{ascii}
use Rattle.console.specs.Answers.{count_text}
use Rattle.console.proofs.AnswerLaws.{and_then}
use Rattle.console.proofs.answers.put_count.Goals as goal

pub returns : goal.returns
unfolding count_text ascii signed_decimal
returns c =
    let a = c.put-a.ensures in
    let b = rw (read32 c.args.count c.ranges.count) at c.put_number.ensures in
    (and_then (take c.args.used c.args.out.now) (ascii " ") (decimal c.args.count) a.0 b.0, omega (arith, a.1, b.1))
