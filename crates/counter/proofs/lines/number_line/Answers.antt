-- `counter::lines::number_line` meets its contract.
use mathlib.Core.List.{append_assoc}
use mir.Facts.{to_z-of_z}
use Rattle.counter.specs.Lines.{text_line, number_line}
use Rattle.counter.proofs.lines.number_line.Goals as goal

pub returns : goal.returns
unfolding number_line text_line
returns c = simp (c.then-3.ensures.0, c.then_number.ensures.0, to_z-of_z c.ranges.v, c.then-2.ensures.0, c.then.ensures.0, c.new.ensures.0, append_assoc)
