-- `take_bytes` takes bytes until another thing comes or the buffer is full.
use Prim.Native.Nat.{◌-◌, ◌≤◌, ◌<◌}
use mathlib.Core.Path.{◌≡◌, refl, sym, ap, ◌∙◌}
use native.Mathlib.Omega.{arith}
use lib.ListN.{length, take, drop, get_or, length-set, length-drop, length-map}
use mir.Syntax.{w64}
use mir.Val.{SFits}
use mir.Facts.{to_z-of_z}
use Rattle.std.specs.Prelude.{Some}
use Rattle.console.specs.declared.words.Kind.{Kind}
use Rattle.console.specs.declared.words.Kind.TheVariants as kind
use Rattle.console.specs.Items.{next_of, bytes}
use Rattle.console.proofs.TextLaws.{rest_of}
use Rattle.console.proofs.ItemLaws.{next_within, Small, byte_small, several_long, all_alike, byte_set, begun, further, ended, ended_full, full, another}
use borrow.Author.Rules.{rules}
use Rattle.console.proofs.items.take_bytes.Goals as goal
use Rattle.console.proofs.items.take_bytes.Goals.{At-loop-count, In-Some, In-loop-count}

room : (c : At-loop-count) → length c.loop-count.into ≡ length bytes
room c = omega (arith, c.loop-count.invariant.1, c.requires, several_long kind.Byte 4096)

below : (c : In-loop-count) → c.loop-count.count < length bytes
below c = omega (arith, c.loop-count-test.true, c.loop-count.invariant.1, c.requires, several_long kind.Byte 4096)

alike : (c : At-loop-count) → next_of (get_or bytes c.loop-count.count kind.Byte) (drop c.loop-count.at c.args.text.now) ≡ next_of kind.Byte (drop c.loop-count.at c.args.text.now)
alike c = ap (λ (k : Kind). next_of k (drop c.loop-count.at c.args.text.now)) (all_alike kind.Byte 4096 c.loop-count.count)

rest : (c : At-loop-count) →
    next_of kind.Byte (take (length c.args.text.now - c.loop-count.at) (drop c.loop-count.at c.args.text.now)) ≡ next_of kind.Byte (drop c.loop-count.at c.args.text.now)
rest c = ap (next_of kind.Byte) (rest_of c.loop-count.at c.args.text.now)

found : (c : In-Some) → next_of kind.Byte (drop c.loop-count.at c.args.text.now) ≡ Some c.in-Some.next
found c = sym (c.in-Some.ensures ∙ ap (next_of kind.Byte) (rest_of c.loop-count.at c.args.text.now))

short : (c : In-Some) → c.in-Some.next.taken ≤ length (drop c.loop-count.at c.args.text.now)
short c = next_within _ _ _ (found c)

byte : (c : In-Some) → Small c.in-Some.next.worth
byte c = byte_small _ _ (found c)

fits : (c : In-Some) → SFits w64 c.in-Some.next.worth
fits c = search rules

pub loop-count-init : goal.loop-count-init
loop-count-init c = (begun _ _ _ (rw length-map (omega (arith, c.requires, several_long kind.Byte 4096))), refl)

pub overflow_cast-into : goal.overflow_cast-into
overflow_cast-into c = rw (to_z-of_z (fits (goal.at.overflow_cast-into c).In-Some)) ((byte (goal.at.overflow_cast-into c).In-Some).above, omega (arith, (byte (goal.at.overflow_cast-into c).In-Some).most))

pub overflow_add-at : goal.overflow_add-at
overflow_add-at c = omega (arith, c.well_formed, c.loop-count.invariant.0.inside, short (goal.at.overflow_add-at c).In-Some, length-drop c.loop-count.at c.args.text.now)

pub loop-count-preserved : goal.loop-count-preserved
loop-count-preserved c = (
  rw (to_z-of_z (fits (goal.at.loop-count-preserved c).In-Some), ← byte_set c.loop-count.into c.loop-count.count _ (byte (goal.at.loop-count-preserved c).In-Some)) (further _ _ _ kind.Byte _ _ _ c.loop-count.invariant.0 (below (goal.at.loop-count-preserved c).In-loop-count) _ (alike (goal.at.loop-count-preserved c).At-loop-count ∙ found (goal.at.loop-count-preserved c).In-Some)),
  simp length-set c.loop-count.invariant.1,
)

pub returns-in-None : goal.returns-in-None
returns-in-None c = ended _ _ _ _ _ _ c.loop-count.invariant.0 (another _ _ _ kind.Byte _ _ _ c.loop-count.invariant.0 (below (goal.at.returns-in-None c).In-loop-count) (alike (goal.at.returns-in-None c).At-loop-count ∙ sym (rest (goal.at.returns-in-None c).At-loop-count) ∙ sym c.in-None.ensures))

pub returns : goal.returns
returns c =
    let q : c.loop-count.count ≡ length c.args.into.now = omega (arith, c.loop-count-test.false, c.loop-count.auto.count-end) in
    ended_full _ _ _ _ _ _ _ q c.loop-count.invariant.0 (full bytes c.loop-count.count (drop c.loop-count.at c.args.text.now) (omega (arith, c.loop-count-test.false, room (goal.at.returns c).At-loop-count)))
