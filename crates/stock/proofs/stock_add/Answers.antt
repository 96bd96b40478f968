-- `stock::stock_add` meets its contract.
use Prim.Native.Nat.{ℕ, ◌≤◌, ◌<◌, ◌^◌}
use mathlib.Core.Path.{sym, ap, subst, ◌∙◌}
use native.Mathlib.Omega.{arith}
use mir.Syntax.{w64}
use mir.Facts.{to_z-of_z}
use Rattle.book.specs.Answers.{Answer}
use Rattle.change.proofs.Answers.{add_within}
use Rattle.stock.specs.Signed.{signed}
use Rattle.stock.proofs.stock_add.Goals as goal

below : (n m : ℕ) → n ≤ m → m < 2 ^ 63 → n < 2 ^ 63
below n m h l = omega arith

pub signed_number-requires : goal.signed_number-requires
signed_number-requires c =
    let a = c.args in
    subst (λ (x : Answer). x.value < 2 ^ 63) (sym c.add.ensures.0) (below _ _ (add_within a.buffer.now a.used a.serial.now _) (omega arith))

pub returns : goal.returns
returns c =
    let f = c.ranges in
    let w = rw (
      to_z-of_z f.voffs,
      to_z-of_z f.ioffs,
      to_z-of_z f.vgain,
      to_z-of_z f.igain,
      to_z-of_z f.phase,
      to_z-of_z f.irmsoffs,
      to_z-of_z f.squelch,
      to_z-of_z f.poffs,
    ) at c.add.ensures in
    (to_z-of_z {w = w64} (record { sfits = c.signed_number.type_inv }) ∙ c.signed_number.ensures ∙ ap signed w.0, w.1)
