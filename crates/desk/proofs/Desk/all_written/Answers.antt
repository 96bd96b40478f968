-- `all_written` meets its contract.
use Rattle.std.proofs.Common.{◌≡◌, ◌∙◌, Bool, false, length, rules, tests}
use Rattle.std.proofs.lemmas.Iterator.{YieldsList-from_slice}
use Rattle.std.proofs.lemmas.Iterator.Search.{all_from_yields_List}
use Rattle.desk.specs.Desks.{all_written}
use Rattle.desk.proofs.Writes.{every_of_list}
use Rattle.desk.proofs.Desk.all_written.Goals as goal

pub returns : goal.returns
unfolding all_written
returns c =
    let w = c.args.self.written in
    let eight : length w ≡ 8 = search rules in
    all_from_yields_List (λ (b : Bool). b) _ _ _ c.all.ensures.ran (YieldsList-from_slice w cc) (λ x b q k. search (rules, tests)) ∙ (rw eight at (every_of_list (λ (b : Bool). b) false w))
