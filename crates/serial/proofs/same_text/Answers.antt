-- `serial::same_text` meets its contract.
use mathlib.Core.Path.{◌∙◌}
use Rattle.serial.proofs.Texts.{same_is}
use Rattle.serial.proofs.same_text.Goals as goal

pub returns : goal.returns
returns c = c.eq.ensures ∙ same_is c.args.a.now c.args.b.now
