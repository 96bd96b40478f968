-- `held_line` is the line of an accepted hold.
use Rattle.console.proofs.AnswerLaws.{and_then}
use native.Mathlib.Omega.{arith}
use Rattle.number.proofs.Fits.{read32}
use Rattle.decimal.specs.Decimals.{decimal, signed_decimal}
use Rattle.serial.specs.Ascii.{ascii}
use Rattle.console.specs.Answers.{end, digits_text, clips_text, alarms_text, held_line}
use mathlib.Core.List.{◌++◌}
use lib.ListN.{take}
use mir.Syntax.{w32}
use mir.Val.{Fits}
use borrow.Author.Rules.{rules}
use Rattle.console.proofs.answers.held_line.Goals as goal
use Rattle.console.proofs.answers.held_line.Goals.{After-put-a}

wide : (c : After-put-a) → Fits w32 c.args.h.number
wide c = search rules

pub returns : goal.returns
unfolding held_line ascii signed_decimal
returns c =
    let before = take c.args.used c.args.out.now in
    let number = decimal c.args.h.number in
    let serial = digits_text c.args.h.serial in
    let clips = clips_text c.args.h.clips in
    let alarms = alarms_text c.args.h.alarms in
    let a = c.put-a.ensures in
    let b = rw (read32 c.args.h.number (wide (goal.at.returns c).After-put-a)) at c.put_number-b.ensures in
    let d = c.put-c.ensures in
    let e = c.put_digits-d.ensures in
    let f = c.put_clips-e.ensures in
    let g = c.put_alarms-f.ensures in
    let h = c.put.ensures in
    let numbered = and_then before (ascii "ok ") number a.0 b.0 in
    let spaced = and_then before (ascii "ok " ++ number) (ascii " ") numbered d.0 in
    let named = and_then before (ascii "ok " ++ number ++ ascii " ") serial spaced e.0 in
    let counted = and_then before (ascii "ok " ++ number ++ ascii " " ++ serial) clips named f.0 in
    let alarmed = and_then before (ascii "ok " ++ number ++ ascii " " ++ serial ++ clips) alarms counted g.0 in (
      and_then before (ascii "ok " ++ number ++ ascii " " ++ serial ++ clips ++ alarms) end alarmed h.0,
      omega (arith, a.1, b.1, d.1, e.1, f.1, g.1, h.1),
    )
