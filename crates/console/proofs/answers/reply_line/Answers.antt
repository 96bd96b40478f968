-- `reply_line` is the line of a reply.
use Prim.Native.Nat.{ℕ, ◌≤◌}
use mathlib.Core.Path.{◌≡◌, ap, ◌∙◌}
use mathlib.Core.List.{◌++◌}
use native.Mathlib.Omega.{arith}
use lib.ListN.{length, take}
use lib.Seq.{length-take-le}
use Rattle.serial.specs.Ascii.{ascii}
use Rattle.console.specs.Answers.{end, bytes_text, reply_line}
use Rattle.console.proofs.AnswerLaws.{and_then, at_most}
use borrow.Author.Rules.{rules}
use Rattle.console.proofs.answers.reply_line.Goals as goal
use Rattle.console.proofs.answers.reply_line.Goals.{After-min-n}

whole : (c : After-min-n) → length c.args.reply.bytes ≡ 255
whole c = search rules

within : (c : After-min-n) → c.min-n.result ≤ length c.args.reply.bytes
within c = omega (arith, c.min-n.ensures, whole c)

taken : (c : After-min-n) → length (take c.min-n.result c.args.reply.bytes) ≤ 255
taken c = omega (arith, length-take-le c.min-n.result c.args.reply.bytes (within c), c.min-n.ensures)

shown : (c : After-min-n) → take c.min-n.result c.args.reply.bytes ≡ take c.args.reply.length c.args.reply.bytes
shown c =
    let r = c.args.reply in
    ap (λ (n : ℕ). take n r.bytes) c.min-n.ensures ∙ at_most r.length 255 r.bytes (whole c)

pub returns : goal.returns
unfolding reply_line ascii
returns c =
    let s = c.args in
    let before = take s.used s.out.now in
    let text = bytes_text (take s.reply.length s.reply.bytes) in
    let p = c.put-a.ensures in
    let q = c.put_bytes-b.ensures in
    let e = c.put.ensures in (
      and_then before (ascii "ok" ++ text) end (and_then before (ascii "ok") text p.0 (rw (shown (goal.at.returns c).After-min-n) at q.out_after)) e.0,
      omega (arith, p.1, q.value, e.1, taken (goal.at.returns c).After-min-n),
    )
