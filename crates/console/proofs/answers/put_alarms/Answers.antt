-- `put_alarms` puts both alarms.
use mathlib.Core.List.{◌++◌}
use native.Mathlib.Omega.{arith}
use lib.ListN.{take}
use Rattle.serial.specs.Ascii.{ascii}
use Rattle.console.specs.Answers.{alarm_text, alarms_text}
use Rattle.console.proofs.AnswerLaws.{and_then}
use Rattle.console.proofs.answers.put_alarms.Goals as goal

pub returns : goal.returns
unfolding alarms_text ascii
returns c =
    let before = take c.args.used c.args.out.now in
    let sag = alarm_text (ascii "SAG") c.args.alarms.sag in
    let surge = alarm_text (ascii "SURGE") c.args.alarms.surge in
    let a = c.put-a.ensures in
    let b = c.put_alarm-b.ensures in
    let d = c.put-c.ensures in
    let e = c.put_alarm.ensures in
    let one = and_then before (ascii " ") sag a.0 b.0 in
    let spaced = and_then before (ascii " " ++ sag) (ascii " ") one d.0 in (
      and_then before (ascii " " ++ sag ++ ascii " ") surge spaced e.0,
      omega (arith, a.1, b.1, d.1, e.1),
    )
