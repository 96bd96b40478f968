-- `Line::new` meets its contract.
use mathlib.Core.Path.{refl}
use Rattle.counter.specs.Lines.{shown}
use Rattle.counter.proofs.line.Line.new.Goals as goal

pub returns : goal.returns
unfolding shown
returns c = (refl, refl)
