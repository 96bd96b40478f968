-- `unread_line` is the line of a reason.
use Rattle.console.proofs.AnswerLaws.{and_then}
use native.Mathlib.Omega.{arith}
use Rattle.serial.specs.Ascii.{ascii}
use Rattle.console.specs.Unread.{why_words}
use mathlib.Core.List.{◌++◌}
use lib.ListN.{take}
use Rattle.console.specs.Answers.{end, unread_line}
use Rattle.console.proofs.answers.unread_line.Goals as goal

pub returns : goal.returns
unfolding unread_line ascii
returns c =
    let words = ascii (why_words c.args.why) in
    let a = c.put-a.ensures in
    let b = rw c.words.ensures.0 at c.put-b.ensures in
    let d = c.put.ensures in (
      and_then (take c.args.used c.args.out.now) (ascii "UNREAD: " ++ words) end (and_then (take c.args.used c.args.out.now) (ascii "UNREAD: ") words a.0 b.0) d.0,
      omega (arith, a.1, c.put-b.ensures.1, c.words.ensures.1, d.1),
    )
