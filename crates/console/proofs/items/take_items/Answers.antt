-- `take_items` takes items until another thing comes or the step has no more.
use Prim.Native.Nat.{◌-◌, ◌≤◌, ◌<◌}
use mathlib.Core.Path.{◌≡◌, sym, ap, ◌∙◌}
use native.Mathlib.Omega.{arith}
use lib.ListN.{length, take, drop, get_or, length-set, length-drop}
use mir.Syntax.{w64}
use mir.Val.{SFits}
use mir.Facts.{to_z-of_z}
use Rattle.std.specs.Prelude.{Some}
use Rattle.console.specs.declared.words.Kind.{Kind}
use Rattle.console.specs.declared.words.Kind.TheVariants as kind
use Rattle.console.specs.Words.{items_of}
use Rattle.console.specs.Items.{next_of}
use Rattle.console.proofs.TextLaws.{rest_of}
use Rattle.console.proofs.ItemLaws.{next_within, further, ended, ended_full, full, another}
use borrow.Author.Rules.{rules}
use Rattle.console.proofs.items.take_items.Goals as goal
use Rattle.console.proofs.items.take_items.Goals.{After-kind_at, In-Some, In-loop-count}

below : (c : In-loop-count) → c.loop-count.count < length (items_of c.args.w)
below c = omega (arith, c.loop-count-test.true, c.arity-most.ensures.0)

rest : (c : After-kind_at) →
    next_of c.kind_at.result (take (length c.args.text.now - c.loop-count.at) (drop c.loop-count.at c.args.text.now))
    ≡ next_of (get_or (items_of c.args.w) c.loop-count.count kind.Number) (drop c.loop-count.at c.args.text.now)
rest c =
    ap (next_of c.kind_at.result) (rest_of c.loop-count.at c.args.text.now)
    ∙ ap (λ (k : Kind). next_of k (drop c.loop-count.at c.args.text.now)) c.kind_at.ensures

found : (c : In-Some) →
    next_of (get_or (items_of c.args.w) c.loop-count.count kind.Number) (drop c.loop-count.at c.args.text.now) ≡ Some c.in-Some.next
found c =
    sym (
    c.in-Some.ensures ∙ ap (next_of c.kind_at.result) (rest_of c.loop-count.at c.args.text.now)
    ∙ ap (λ (k : Kind). next_of k (drop c.loop-count.at c.args.text.now)) c.kind_at.ensures
    )

short : (c : In-Some) → c.in-Some.next.taken ≤ length (drop c.loop-count.at c.args.text.now)
short c = next_within _ _ _ (found c)

fits : (c : In-Some) → SFits w64 c.in-Some.next.worth
fits c = search rules

pub overflow_add-at : goal.overflow_add-at
overflow_add-at c = omega (arith, c.well_formed, c.loop-count.invariant.0.inside, short (goal.at.overflow_add-at c).In-Some, length-drop c.loop-count.at c.args.text.now)

pub loop-count-preserved : goal.loop-count-preserved
loop-count-preserved c = (rw (to_z-of_z (fits (goal.at.loop-count-preserved c).In-Some)) (further _ _ _ kind.Number _ _ _ c.loop-count.invariant.0 (below (goal.at.loop-count-preserved c).In-loop-count) _ (found (goal.at.loop-count-preserved c).In-Some)), simp length-set c.loop-count.invariant.1)

pub returns-in-None : goal.returns-in-None
returns-in-None c = ended _ _ _ _ _ _ c.loop-count.invariant.0 (another _ _ _ kind.Number _ _ _ c.loop-count.invariant.0 (below (goal.at.returns-in-None c).In-loop-count) (sym (rest (goal.at.returns-in-None c).After-kind_at) ∙ sym c.in-None.ensures))

pub returns : goal.returns
returns c =
    let q : c.loop-count.count ≡ c.arity-most.result = omega (arith, c.loop-count-test.false, c.loop-count.auto.count-end) in
    ended_full _ _ _ _ _ _ _ q c.loop-count.invariant.0 (full (items_of c.args.w) c.loop-count.count (drop c.loop-count.at c.args.text.now) (omega (arith, c.loop-count-test.false, c.arity-most.ensures.0)))
