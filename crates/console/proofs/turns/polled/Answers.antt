-- `polled` hands a packet to the module, and says its reply.
use Prim.Native.Nat.{ℕ, ◌≤◌}
use mathlib.Core.Path.{◌≡◌, refl, ap, ◌∙◌}
use mathlib.Core.List.{List}
use native.Mathlib.Omega.{arith}
use lib.ListN.{length, take, replicate, length-replicate}
use lib.Seq.{length-take-le}
use Rattle.steps.specs.Answers.{OrRefusal}
use Rattle.steps.proofs.Answers.{handed_on}
use Rattle.console.specs.declared.turns.Said.{Said}
use Rattle.console.proofs.TurnLaws.{polled_says, polled_no}
use Rattle.console.proofs.turns.polled.Goals as goal

abbrev zeros : List ℕ
zeros = replicate 255 0

lent : (room : ℕ) → room ≤ 255 → length (take room zeros) ≡ room
lent room h = length-take-le room zeros (omega (arith, length-replicate {A = ℕ} 255 0))

pub returns-in_err-length : goal.returns-in_err-length
returns-in_err-length c =
    let a = c.args in
    let p = c.in_err-length.ensures in
    let m = c.poll.new.self in
    ap (λ (s : OrRefusal Said). record { said = s; after = m }) (handed_on _ _ c.from_residual.ensures.1) ∙ polled_no a.m.now a.packet.now a.room _ m (rw (lent a.room c.requires) at p.0)

pub returns : goal.returns
returns c =
    let a = c.args in
    let p = c.in_ok-length.ensures in
    polled_says a.m.now a.packet.now a.room c.requires zeros _ _ _ refl p.1 (rw (lent a.room c.requires) at p.0)
