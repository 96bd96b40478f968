-- `stock::signed_number` meets its contract.
use Prim.Native.Nat.{ℕ, ◌^◌, ◌<◌}
use mathlib.Core.Path.{◌≡◌, sym, ap, ◌∙◌}
use native.Mathlib.Omega.{arith}
use lib.IntN.{pos, ◌-ℤ◌}
use mir.Syntax.{w64}
use mir.Val.{to_z, of_z}
use mir.Facts.{to_z_pos, to_z-of_z}
use Rattle.std.specs.Prelude.{neg_ℤ, Result}
use Rattle.std.proofs.lemmas.Int.{ints}
use Rattle.refusal.specs.declared.Refusal.{Refusal}
use Rattle.refusal.specs.Numbers.{number_of}
use Rattle.book.specs.Answers.{answer_of, refused}
use Rattle.book.proofs.Answers.{refused_number}
use Rattle.stock.specs.Signed.{signed}
use Rattle.stock.proofs.signed_number.Goals as goal
use Rattle.stock.proofs.signed_number.Goals.{In-Ok}

small : (c : In-Ok) → c.in-Ok.n < 2 ^ 63
small c = omega (arith, c.requires, ap (λ (a : Result ℕ Refusal). (answer_of a).value) c.in-Ok.is)

pub returns-in-Ok : goal.returns-in-Ok
unfolding signed
returns-in-Ok c = to_z_pos w64 (small (goal.at.returns-in-Ok c).In-Ok) ∙ sym (ap (λ (a : Result ℕ Refusal). signed (answer_of a)) c.in-Ok.is)

negated : (n : ℕ) → n < 256 → to_z w64 (of_z w64 (pos 0 -ℤ to_z w64 (of_z w64 (pos n)))) ≡ neg_ℤ (pos n)
negated n l = grind (arith, ints, to_z-of_z)

signed_refused : (r : Refusal) → signed (refused (number_of r)) ≡ neg_ℤ (pos (number_of r))
unfolding signed
signed_refused r = simp (refused_number r)

pub returns-in-Err : goal.returns-in-Err
returns-in-Err c =
    let r = c.in-Err.refusal in
    rw (c.from.ensures, c.number.ensures, c.in-Err.is, signed_refused r) (negated (number_of r) (omega (arith, c.number.ensures)))
