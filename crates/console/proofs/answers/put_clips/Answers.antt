-- `put_clips` puts the three counts of clipped samples.
use native.Mathlib.Omega.{arith}
use mathlib.Core.List.{◌++◌}
use lib.ListN.{take}
use Rattle.console.specs.Answers.{count_text, clips_text}
use Rattle.console.proofs.AnswerLaws.{and_then}
use Rattle.console.proofs.answers.put_clips.Goals as goal

pub returns : goal.returns
unfolding clips_text
returns c =
    let s = c.args in
    let before = take s.used s.out.now in
    let v = count_text s.clips.v in
    let s1 = count_text s.clips.s1 in
    let a = c.put_count-a.ensures in
    let b = c.put_count-b.ensures in
    let d = c.put_count.ensures in
    (and_then before (v ++ s1) (count_text s.clips.s3) (and_then before v s1 a.0 b.0) d.0, omega (arith, a.1, b.1, d.1))
