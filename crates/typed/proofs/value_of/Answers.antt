-- `typed::value_of` meets its contract.
use Prim.Native.Nat.{◌≤◌}
use mathlib.Core.Path.{◌≡◌, sym, ap, ◌∙◌}
use mathlib.Core.Bool.{true}
use native.Mathlib.Omega.{arith}
use lib.ListN.{length, get_or}
use borrow.Author.Tests.{eq-eqb, ne_eqb}
use Rattle.typed.specs.Values.{sized_value, value_of}
use Rattle.typed.proofs.Laws.{begun, behind}
use Rattle.typed.proofs.value_of.Goals as goal
use Rattle.typed.proofs.value_of.Goals.{Then-byte_at-eq45}

minus : (c : Then-byte_at-eq45) → get_or c.args.word.now 0 0 ≡ 45
minus c = sym c.byte_at.ensures ∙ c.if-byte_at-eq45.true

some : (c : Then-byte_at-eq45) → 1 ≤ length c.args.word.now
some c = begun c.args.word.now (minus c)

pub slice_bounds-sized-count : goal.slice_bounds-sized-count
slice_bounds-sized-count c = some c

pub slice_bounds-sized-start : goal.slice_bounds-sized-start
slice_bounds-sized-start c = omega (arith, some c)

pub returns-then-byte_at-eq45 : goal.returns-then-byte_at-eq45
unfolding value_of
returns-then-byte_at-eq45 c =
    let w = c.args.word.now in
    c.sized.ensures ∙ ap (sized_value true) (behind w) ∙ sym (simp (eq-eqb (get_or w 0 0) 45 (minus (goal.at.returns-then-byte_at-eq45 c).Then-byte_at-eq45)))

pub returns : goal.returns
unfolding value_of
returns c =
    let w = c.args.word.now in
    c.sized-2.ensures ∙ sym (simp (ne_eqb (get_or w 0 0) 45 (λ e. c.if-byte_at-eq45.false (c.byte_at.ensures ∙ e))))
