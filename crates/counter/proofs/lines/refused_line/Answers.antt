-- `counter::lines::refused_line` meets its contract.
use Prim.Native.Nat.{◌<◌, ◌≤◌}
use mathlib.Core.List.{append_assoc}
use mir.Syntax.{w64}
use mir.Facts.{to_z_pos}
use native.Mathlib.Omega.{arith}
use lib.ListN.{length}
use Rattle.serial.specs.Ascii.{ascii}
use Rattle.refusal.specs.Numbers.{number_of}
use Rattle.refusal.proofs.Rows.{words_short}
use Rattle.counter.specs.Lines.{text_line, refused_line}
use Rattle.counter.proofs.lines.refused_line.Goals as goal
use Rattle.counter.proofs.lines.refused_line.Goals.{After-as_bytes}

short : (c : After-as_bytes) → length c.as_bytes.result.now ≤ 40
short c = rw (c.as_bytes.ensures.value, c.words.ensures) (words_short _)

pub then-requires-4 : goal.then-requires-4
then-requires-4 c = omega (arith, short c)

pub then-requires-5 : goal.then-requires-5
then-requires-5 c = omega (arith, short (goal.at.then-requires-5 c).After-as_bytes)

pub returns : goal.returns
unfolding refused_line text_line ascii
returns c =
    let small : number_of c.args.refusal < 9223372036854775808 = omega (arith, c.number.ensures) in
    simp (
      c.then-5.ensures.0,
      c.then-4.ensures.0,
      c.as_bytes.ensures.value,
      c.words.ensures,
      c.then-3.ensures.0,
      c.then_number-head.ensures.0,
      to_z_pos w64 small,
      c.number.ensures,
      c.then-2.ensures.0,
      c.then.ensures.0,
      c.new.ensures.0,
      append_assoc,
    )
