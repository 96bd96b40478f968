-- `all_slots` meets its contract.
use Rattle.std.proofs.Common.{◌∙◌, rules}
use Rattle.std.proofs.lemmas.Iterator.{YieldsList-from_slice}
use Rattle.std.proofs.lemmas.Iterator.Search.{all_from_yields_List}
use borrow.Author.Tests.{tests}
use Rattle.address.specs.Slots.{slot_ok}
use Rattle.address.proofs.Slots.{slots_all}
use Rattle.address.proofs.all_slots.Goals as goal

pub returns : goal.returns
returns c = all_from_yields_List slot_ok _ _ _ c.all.ensures.ran (YieldsList-from_slice c.args.track cc) (λ x b q k. search (rules, tests)) ∙ slots_all c.args.track
