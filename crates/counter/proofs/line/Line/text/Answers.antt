-- `Line::text` meets its contract.
use mathlib.Core.Path.{refl}
use Rattle.counter.specs.Lines.{shown}
use Rattle.counter.proofs.line.Line.text.Goals as goal

pub returns : goal.returns
unfolding shown
returns c = refl
