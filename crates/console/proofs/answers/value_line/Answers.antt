-- `value_line` is the line of a register's value.
use Rattle.console.proofs.AnswerLaws.{and_then}
use native.Mathlib.Omega.{arith}
use mir.Facts.{to_z-of_z}
use Rattle.serial.specs.Ascii.{ascii}
use Rattle.console.specs.Answers.{end, value_line}
use mathlib.Core.List.{◌++◌}
use lib.ListN.{take}
use Rattle.decimal.specs.Decimals.{signed_decimal}
use Rattle.console.proofs.answers.value_line.Goals as goal

pub returns : goal.returns
unfolding value_line ascii
returns c =
    let words = signed_decimal c.args.v in
    let a = c.put-a.ensures in
    let b = rw (to_z-of_z c.ranges.v) at c.put_number-b.ensures in
    let d = c.put.ensures in (
      and_then (take c.args.used c.args.out.now) (ascii "ok " ++ words) end (and_then (take c.args.used c.args.out.now) (ascii "ok ") words a.0 b.0) d.0,
      omega (arith, a.1, b.1, d.1),
    )
