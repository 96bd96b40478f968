-- `register_of` meets its contract.
use Rattle.std.proofs.Common.{◌∙◌, ◌*◌, rules, eqb}
use Rattle.std.proofs.lemmas.Iterator.{YieldsList-from_slice}
use Rattle.std.proofs.lemmas.Iterator.Search.{position_from_yields_List}
use borrow.Author.Tests.{tests}
use Rattle.address.specs.Addresses.{words, trackable, untracked, byte_of}
use Rattle.address.proofs.Places.{byte_found}
use Rattle.address.proofs.register_of.Goals as goal

pub returns : goal.returns
unfolding words trackable untracked byte_of
returns c = position_from_yields_List (λ y. eqb (3 * y) c.args.a.0) _ _ _ c.position.ensures.ran (YieldsList-from_slice words c.iter.ensures.rest) (λ x b q k. search (rules, tests)) ∙ byte_found c.args.a.0
