-- `place_of` meets its contract.
use Rattle.std.proofs.Common.{◌∙◌, rules, eqb}
use Rattle.std.proofs.lemmas.Iterator.{YieldsList-from_slice}
use Rattle.std.proofs.lemmas.Iterator.Search.{position_from_yields_List}
use borrow.Author.Tests.{tests}
use Rattle.address.specs.Addresses.{trackable}
use Rattle.address.proofs.Places.{word_found}
use Rattle.address.proofs.place_of.Goals as goal

pub returns : goal.returns
unfolding trackable
returns c = position_from_yields_List (λ y. eqb y c.args.w.0) _ _ _ c.position.ensures.ran (YieldsList-from_slice trackable cc) (λ x b q k. search (rules, tests)) ∙ word_found c.args.w.0
