-- `refusal::words` meets its contract: a number that is no refusal's has no words.
use mathlib.Core.Path.{sym, ◌∙◌}
use Rattle.refusal.proofs.Numbers.{none_numbered}
use Rattle.refusal.proofs.Rows.{nothing_written}
use Rattle.refusal.proofs.words.Goals as goal

pub returns-in-None : goal.returns-in-None
returns-in-None c = rw (none_numbered c.args.number (sym c.of_number.ensures ∙ c.in-None.is)) (nothing_written c.args.buffer.now)
