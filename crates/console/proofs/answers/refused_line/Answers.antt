-- `refused_line` is the line of a refusal.
use Prim.Native.Nat.{◌<◌, ◌≤◌}
use Rattle.console.proofs.AnswerLaws.{and_then}
use native.Mathlib.Omega.{arith}
use mir.Syntax.{w64}
use mir.Facts.{to_z_pos}
use Rattle.decimal.specs.Decimals.{decimal, signed_decimal}
use Rattle.serial.specs.Ascii.{ascii}
use Rattle.console.specs.Answers.{end, refused_line}
use mathlib.Core.List.{◌++◌}
use lib.ListN.{length, take}
use Rattle.refusal.specs.Words.{words_of}
use Rattle.refusal.specs.Numbers.{number_of}
use Rattle.refusal.proofs.Rows.{words_short}
use Rattle.console.proofs.answers.refused_line.Goals as goal
use Rattle.console.proofs.answers.refused_line.Goals.{After-as_bytes}

-- the words are no longer than 40 bytes
short : (c : After-as_bytes) → length c.as_bytes.result.now ≤ 40
short c = rw (c.as_bytes.ensures.value, c.words.ensures) (words_short (number_of c.args.refusal))

pub put-d-requires : goal.put-d-requires
put-d-requires c = let l = short (goal.at.put-d-requires c).After-as_bytes in omega (arith, l)

pub put-requires : goal.put-requires
put-requires c = let l = short (goal.at.put-requires c).After-as_bytes in omega (arith, l)

pub returns : goal.returns
unfolding refused_line ascii signed_decimal
returns c =
    let n = number_of c.args.refusal in
    let before = take c.args.used c.args.out.now in
    let words = words_of n in
    let small : c.number.result < 9223372036854775808 = omega (arith, c.number.type_inv) in
    let a = c.put-a.ensures in
    let b = rw (to_z_pos w64 small, c.number.ensures) at c.put_number-b.ensures in
    let d = c.put-c.ensures in
    let e = rw (c.as_bytes.ensures.value, c.words.ensures) at c.put-d.ensures in
    let f = c.put.ensures in (
      and_then before (ascii "REFUSED " ++ decimal n ++ ascii ": " ++ words) end
          (and_then before (ascii "REFUSED " ++ decimal n ++ ascii ": ") words
          (and_then before (ascii "REFUSED " ++ decimal n) (ascii ": ") (and_then before (ascii "REFUSED ") (decimal n) a.0 b.0) d.0) e.0) f.0,
      omega (arith, a.1, b.1, d.1, e.1, words_short n, f.1),
    )
