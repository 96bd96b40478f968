-- `cards_line` is the line of the two serials.
use Rattle.console.proofs.AnswerLaws.{and_then}
use native.Mathlib.Omega.{arith}
use Rattle.serial.specs.Ascii.{ascii}
use Rattle.console.specs.Answers.{end, card_text, cards_line}
use mathlib.Core.List.{◌++◌}
use lib.ListN.{take}
use Rattle.console.proofs.answers.cards_line.Goals as goal

pub returns : goal.returns
unfolding cards_line ascii
returns c =
    let a = c.put-a.ensures in
    let b = c.put_card-b.ensures in
    let d = c.put-c.ensures in
    let e = c.put_card-d.ensures in
    let f = c.put.ensures in (
      and_then (take c.args.used c.args.out.now) (ascii "ok " ++ card_text c.args.cards.force ++ ascii " " ++ card_text c.args.cards.waiting) end
          (and_then (take c.args.used c.args.out.now) (ascii "ok " ++ card_text c.args.cards.force ++ ascii " ") (card_text c.args.cards.waiting)
          (and_then (take c.args.used c.args.out.now) (ascii "ok " ++ card_text c.args.cards.force) (ascii " ") (and_then (take c.args.used c.args.out.now) (ascii "ok ") (card_text c.args.cards.force) a.0 b.0) d.0) e.0) f.0,
      omega (arith, a.1, b.1, d.1, e.1, f.1),
    )
