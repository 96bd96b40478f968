-- `with_items` is a step with numbers and names alone.
use Prim.Native.Nat.{◌≤◌}
use mathlib.Core.Path.{ap, ◌∙◌}
use lib.ListN.{length, drop}
use Rattle.console.specs.declared.unread.Why.{Why}
use Rattle.console.specs.Turns.{unread_turn}
use Rattle.console.specs.Words.{items_of}
use Rattle.console.specs.Unread.{stopped_before}
use Rattle.console.proofs.TextLaws.{rest_of}
use Rattle.console.proofs.ItemLaws.{row_within}
use Rattle.console.proofs.TurnLaws.{whole_line, not_whole}
use Rattle.console.proofs.turns.with_items.Goals as goal
use Rattle.console.proofs.turns.with_items.Goals.{After-take_items-n}

inside : (c : After-take_items-n) → c.take_items-n.result.taken ≤ length c.args.rest.now
inside c = rw c.take_items-n.ensures.bytes (row_within (items_of c.args.w) c.args.rest.now)

pub slice_bounds-behind-count : goal.slice_bounds-behind-count
slice_bounds-behind-count c = inside (goal.at.slice_bounds-behind-count c).After-take_items-n

pub slice_bounds-behind-start : goal.slice_bounds-behind-start
slice_bounds-behind-start c = inside (goal.at.slice_bounds-behind-start c).After-take_items-n

pub returns-then-is_empty-are_enough : goal.returns-then-is_empty-are_enough
returns-then-is_empty-are_enough c =
    let t = c.take_items-n in
    c.with_worths.ensures ∙ whole_line c.args.m.now c.args.w c.args.rest.now t.result _ t.ensures
    (rw (c.is_empty.ensures, c.are_enough.ensures, rest_of t.result.taken c.args.rest.now) at c.if-is_empty-are_enough.true)

pub returns : goal.returns
returns c =
    let t = c.take_items-n in
    let rest = c.args.rest.now in
    ap (λ (w : Why). unread_turn c.args.m.now w)
    (c.stopped.ensures ∙ ap (stopped_before (drop t.result.count (items_of c.args.w))) (rest_of t.result.taken rest))
    ∙ not_whole c.args.m.now c.args.w rest t.result _ t.ensures
    (rw (c.is_empty.ensures, c.are_enough.ensures, rest_of t.result.taken rest) at c.if-is_empty-are_enough.false)
