-- `length_to` finds the first such byte.
use Prim.Native.Nat.{ℕ}
use mathlib.Core.Path.{ap, ◌∙◌}
use lib.Dec.{eqb}
use lib.ListN.{length}
use Rattle.std.proofs.Common.{Option, rules}
use Rattle.std.specs.Option.{unwrap_or}
use Rattle.std.proofs.lemmas.Iterator.{YieldsList-from_slice}
use Rattle.std.proofs.lemmas.Iterator.Search.{position_from_yields_List}
use borrow.Author.Tests.{tests}
use Rattle.console.proofs.TextLaws.{to_found}
use Rattle.console.proofs.texts.length_to.Goals as goal

pub returns : goal.returns
returns c =
    let stop = c.args.stop in
    let text = c.args.text.now in
    let found = position_from_yields_List (λ x. eqb x stop) _ _ _ c.position.ensures.ran (YieldsList-from_slice text cc) (λ x b q k. search (rules, tests)) in
    c.unwrap_or.ensures ∙ ap (λ (o : Option ℕ). unwrap_or o (length text)) found ∙ to_found stop text
