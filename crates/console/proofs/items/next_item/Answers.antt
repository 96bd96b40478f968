-- `next_item` finds an item behind one space.
use Prim.Native.Nat.{◌≤◌}
use mathlib.Core.Path.{◌≡◌, sym, ◌∙◌}
use mathlib.Core.Bool.{true}
use mathlib.Core.List.{[], ◌∷◌}
use native.Mathlib.Omega.{arith}
use lib.ListN.{length}
use lib.Seq.{length-take-le}
use mir.Syntax.{w64}
use mir.Val.{SFits}
use mir.Facts.{to_z-of_z}
use Rattle.console.specs.Texts.{begins_with}
use Rattle.console.proofs.TextLaws.{begins_is, to_within}
use Rattle.console.proofs.ItemLaws.{no_space, no_worth, some_worth}
use borrow.Author.Rules.{rules}
use Rattle.console.proofs.items.next_item.Goals as goal
use Rattle.console.proofs.items.next_item.Goals.{After-length_to-n, In_ok-worth}

spaced : (c : After-length_to-n) → begins_with (32 ∷ []) c.args.text.now ≡ true
spaced c = sym (begins_is _ _) ∙ c.in_ok-item.ensures.cases.0

within : (c : After-length_to-n) → c.length_to-n.result ≤ length c.in_ok-item.item.now
within c = rw c.length_to-n.ensures (to_within 32 c.in_ok-item.item.now)

fits : (c : In_ok-worth) → SFits w64 c.in_ok-worth.worth
fits c = search rules

pub returns-in_err-item : goal.returns-in_err-item
returns-in_err-item c = c.from_residual.ensures ∙ no_space _ _ (sym (begins_is _ _) ∙ c.in_err-item.ensures.cases)

pub slice_bounds-worth_in-end : goal.slice_bounds-worth_in-end
slice_bounds-worth_in-end c = sym (length-take-le _ _ (within (goal.at.slice_bounds-worth_in-end c).After-length_to-n))

pub returns-in_err-worth : goal.returns-in_err-worth
returns-in_err-worth c =
    let s = spaced (goal.at.returns-in_err-worth c).After-length_to-n in
    c.from_residual-in_err-worth.ensures ∙ no_worth _ _ _ _ s c.in_ok-item.ensures.cases.1 c.length_to-n.ensures (sym c.worth_in.ensures ∙ c.in_err-worth.was)

pub overflow_add-result : goal.overflow_add-result
overflow_add-result c =
    let l = within (goal.at.overflow_add-result c).After-length_to-n in
    let e = c.in_ok-item.ensures.cases in
    omega (arith, l, e.2, c.well_formed)

pub returns : goal.returns
returns c =
    let s = spaced (goal.at.returns c).After-length_to-n in
    rw (to_z-of_z (fits (goal.at.returns c).In_ok-worth)) (some_worth _ _ _ _ s c.in_ok-item.ensures.cases.1 c.length_to-n.ensures _ (sym c.worth_in.ensures ∙ c.in_ok-worth.was))
