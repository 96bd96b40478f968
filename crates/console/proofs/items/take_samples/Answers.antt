-- `take_samples` takes samples until another thing comes or the buffer is full.
use Prim.Native.Nat.{◌-◌, ◌≤◌, ◌<◌}
use mathlib.Core.Path.{◌≡◌, refl, sym, ap, ◌∙◌}
use native.Mathlib.Omega.{arith}
use lib.ListN.{length, take, drop, get_or, length-set, length-drop}
use mir.Syntax.{w32, w64}
use mir.Val.{SFits}
use mir.Facts.{to_z-of_z}
use Rattle.std.specs.Prelude.{Some}
use Rattle.console.specs.declared.words.Kind.{Kind}
use Rattle.console.specs.declared.words.Kind.TheVariants as kind
use Rattle.console.specs.Items.{next_of, samples}
use Rattle.console.proofs.TextLaws.{rest_of}
use Rattle.console.proofs.ItemLaws.{next_within, sample_fits, several_long, all_alike, begun, further, ended, ended_full, full, another}
use borrow.Author.Rules.{rules}
use Rattle.console.proofs.items.take_samples.Goals as goal
use Rattle.console.proofs.items.take_samples.Goals.{At-loop-count, In-Some, In-loop-count}

below : (c : In-loop-count) → c.loop-count.count < length (samples (length c.args.into.now))
below c = omega (arith, c.loop-count-test.true, c.loop-count.invariant.1, several_long kind.Sample (length c.args.into.now))

sampled : (c : At-loop-count) →
    next_of (get_or (samples (length c.args.into.now)) c.loop-count.count kind.Sample) (drop c.loop-count.at c.args.text.now) ≡ next_of kind.Sample (drop c.loop-count.at c.args.text.now)
sampled c = ap (λ (k : Kind). next_of k (drop c.loop-count.at c.args.text.now)) (all_alike kind.Sample (length c.args.into.now) c.loop-count.count)

rest : (c : At-loop-count) →
    next_of kind.Sample (take (length c.args.text.now - c.loop-count.at) (drop c.loop-count.at c.args.text.now)) ≡ next_of kind.Sample (drop c.loop-count.at c.args.text.now)
rest c = ap (next_of kind.Sample) (rest_of c.loop-count.at c.args.text.now)

found : (c : In-Some) → next_of kind.Sample (drop c.loop-count.at c.args.text.now) ≡ Some c.in-Some.next
found c = sym (c.in-Some.ensures ∙ ap (next_of kind.Sample) (rest_of c.loop-count.at c.args.text.now))

short : (c : In-Some) → c.in-Some.next.taken ≤ length (drop c.loop-count.at c.args.text.now)
short c = next_within _ _ _ (found c)

narrow : (c : In-Some) → SFits w32 c.in-Some.next.worth
narrow c = sample_fits _ _ (found c)

fits : (c : In-Some) → SFits w64 c.in-Some.next.worth
fits c = search rules

pub loop-count-init : goal.loop-count-init
loop-count-init c = (begun _ _ _ (omega (arith, several_long kind.Sample (length c.args.into.now))), refl)

pub overflow_cast-into : goal.overflow_cast-into
overflow_cast-into c = rw (to_z-of_z (fits (goal.at.overflow_cast-into c).In-Some)) (narrow (goal.at.overflow_cast-into c).In-Some)

pub overflow_add-at : goal.overflow_add-at
overflow_add-at c = omega (arith, c.well_formed, c.loop-count.invariant.0.inside, short (goal.at.overflow_add-at c).In-Some, length-drop c.loop-count.at c.args.text.now)

pub loop-count-preserved : goal.loop-count-preserved
loop-count-preserved c = (rw (to_z-of_z (fits (goal.at.loop-count-preserved c).In-Some), to_z-of_z (narrow (goal.at.loop-count-preserved c).In-Some)) (further _ _ _ kind.Sample _ _ _ c.loop-count.invariant.0 (below (goal.at.loop-count-preserved c).In-loop-count) _ (sampled (goal.at.loop-count-preserved c).At-loop-count ∙ found (goal.at.loop-count-preserved c).In-Some)), simp length-set c.loop-count.invariant.1)

pub returns-in-None : goal.returns-in-None
returns-in-None c = ended _ _ _ _ _ _ c.loop-count.invariant.0 (another _ _ _ kind.Sample _ _ _ c.loop-count.invariant.0 (below (goal.at.returns-in-None c).In-loop-count) (sampled (goal.at.returns-in-None c).At-loop-count ∙ sym (rest (goal.at.returns-in-None c).At-loop-count) ∙ sym c.in-None.ensures))

pub returns : goal.returns
returns c =
    let q : c.loop-count.count ≡ length c.args.into.now = omega (arith, c.loop-count-test.false, c.loop-count.auto.count-end) in
    ended_full _ _ _ _ _ _ _ q c.loop-count.invariant.0 (full (samples (length c.args.into.now)) c.loop-count.count (drop c.loop-count.at c.args.text.now) (omega (arith, c.loop-count-test.false, c.loop-count.invariant.1, several_long kind.Sample (length c.args.into.now))))
