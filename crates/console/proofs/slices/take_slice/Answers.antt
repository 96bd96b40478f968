-- `take_slice` is a slice of a block with the bar behind it.
use Prim.Native.Nat.{ℕ, ◌-◌, ◌≤◌}
use mathlib.Core.Path.{◌≡◌, sym, ap, ◌∙◌}
use native.Mathlib.Omega.{arith}
use lib.ListN.{length, take, drop}
use Rattle.console.specs.declared.words.Kind.TheVariants as kind
use Rattle.console.specs.Items.{samples}
use Rattle.console.specs.Unread.{slice_stopped}
use Rattle.console.specs.Turns.{barred}
use Rattle.console.proofs.TextLaws.{begins_is, rest_of}
use Rattle.console.proofs.ItemLaws.{row_within, row_count, several_long}
use Rattle.console.proofs.TurnLaws.{slice_ends, slice_stops}
use Rattle.console.proofs.slices.take_slice.Goals as goal
use Rattle.console.proofs.slices.take_slice.Goals.{After-take_samples-n}

inside : (c : After-take_samples-n) → c.take_samples-n.result.taken ≤ length c.args.text.now
inside c = omega (arith, c.take_samples-n.ensures.bytes, row_within (samples (length c.args.into.now)) c.args.text.now)

room : (c : After-take_samples-n) → c.take_samples-n.result.count ≤ length c.take_samples-n.new.into
room c =
    let t = c.take_samples-n in
    let most = length c.args.into.now in
    omega (arith, t.ensures.count, row_count (samples most) c.args.text.now, several_long kind.Sample most, t.auto.into)

rest : (c : After-take_samples-n) → take (length c.args.text.now - c.take_samples-n.result.taken) (drop c.take_samples-n.result.taken c.args.text.now) ≡ drop c.take_samples-n.result.taken c.args.text.now
rest c = rest_of c.take_samples-n.result.taken c.args.text.now

pub slice_bounds-behind-count : goal.slice_bounds-behind-count
slice_bounds-behind-count c = inside (goal.at.slice_bounds-behind-count c).After-take_samples-n

pub slice_bounds-behind-start : goal.slice_bounds-behind-start
slice_bounds-behind-start c = inside (goal.at.slice_bounds-behind-start c).After-take_samples-n

pub returns-in-Some : goal.returns-in-Some
returns-in-Some c =
    let t = (goal.at.returns-in-Some c).After-take_samples-n in
    let e = c.in-Some.ensures.cases in
    slice_ends _ _ _ _ _ c.take_samples-n.ensures _ (ap barred (sym (rest t)) ∙ sym (begins_is _ _) ∙ e.0) (e.1 ∙ ap (drop 2) (rest t)) (room t)

pub returns-in-None : goal.returns-in-None
returns-in-None c =
    let t = (goal.at.returns-in-None c).After-take_samples-n in
    let n = c.take_samples-n in
    slice_stops _ _ _ _ _ n.ensures _ (ap barred (sym (rest t)) ∙ sym (begins_is _ _) ∙ c.in-None.ensures.cases)
    (c.slice_stopped.ensures ∙ ap (λ (k : ℕ). slice_stopped k n.result.count (take (length c.args.text.now - n.result.taken) (drop n.result.taken c.args.text.now))) n.auto.into
    ∙ ap (slice_stopped (length c.args.into.now) n.result.count) (rest t))
