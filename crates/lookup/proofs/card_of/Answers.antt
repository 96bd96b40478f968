-- `lookup::card_of` meets its contract.
use Prim.Native.Nat.{◌+◌, ◌≤◌}
use mathlib.Core.Path.{◌≡◌, refl, sym, ap, ◌∙◌}
use native.Mathlib.Omega.{arith}
use lib.Dec.{eqb}
use lib.ListN.{length}
use Rattle.serial.proofs.Places.{lent}
use Rattle.book.specs.Answers.{Answer, accepted}
use Rattle.book.proofs.Answers.{refused_number}
use Rattle.lookup.specs.Lookup.{lookup_of, card_part}
use Rattle.lookup.proofs.Answers.{place_fits}
use Rattle.lookup.proofs.card_of.Goals as goal
use Rattle.lookup.proofs.card_of.Goals.{In-Ok}

-- in the arm of a place, lookup answers it
answered : (c : In-Ok) → lookup_of c.args.book.now c.args.text.now ≡ accepted c.in-Ok.n
answered c = sym c.in-Ok.ensures

fits : (c : In-Ok) → c.in-Ok.n + 37 ≤ length c.args.book.now
fits c = place_fits _ _ _ (answered c)

pub overflow_add-result : goal.overflow_add-result
overflow_add-result c = omega (arith, fits c)

pub slice_bounds-result-end : goal.slice_bounds-result-end
slice_bounds-result-end c = omega (arith, fits c)

pub returns-in-Ok : goal.returns-in-Ok
unfolding card_part
returns-in-Ok c = (simp (answered (goal.at.returns-in-Ok c).In-Ok) (lent _ _ 37), refl, simp (answered (goal.at.returns-in-Ok c).In-Ok) (omega arith))

pub returns-in-Err : goal.returns-in-Err
unfolding card_part
returns-in-Err c =
    let refused = c.in-Err.ensures in
    let n = ap (λ (x : Answer). eqb x.number 0) (sym refused) ∙ refused_number c.in-Err.field-0 in
    let v = ap (λ (x : Answer). x.value) (sym refused) in
    (simp n, refl, rw v (omega arith))
