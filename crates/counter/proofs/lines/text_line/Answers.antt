-- `counter::lines::text_line` meets its contract.
use mathlib.Core.List.{append_assoc}
use Rattle.counter.specs.Lines.{text_line}
use Rattle.counter.proofs.lines.text_line.Goals as goal

pub returns : goal.returns
unfolding text_line
returns c = simp (c.then-4.ensures.0, c.then-3.ensures.0, c.then-2.ensures.0, c.then.ensures.0, c.new.ensures.0, append_assoc)
