-- `counter::asked::look_up` meets its contract.
use mathlib.Core.Path.{ap, ◌∙◌}
use mir.Syntax.{w64}
use mir.Facts.{to_z-of_z}
use Rattle.counter.specs.Asked.{answered_of}
use Rattle.counter.proofs.Said.{lookup_back}
use Rattle.counter.proofs.asked.look_up.Goals as goal

pub returns : goal.returns
returns c = c.answered.ensures ∙ ap answered_of (to_z-of_z {w = w64} (record { sfits = c.stock_lookup.type_inv }) ∙ c.stock_lookup.ensures) ∙ lookup_back c.args.book.now c.args.label.now
