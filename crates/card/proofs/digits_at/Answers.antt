-- `card::digits_at` meets its contract: the loop fills the twelve places.
use Prim.Native.Nat.{ℕ, ◌+◌}
use mathlib.Core.Path.{◌≡◌, refl}
use native.Mathlib.Omega.{arith}
use lib.ListN.{get_or, length-set, replicate}
use Rattle.serial.proofs.Places.{fill_none, fill_more, fill_all}
use Rattle.card.specs.Cards.{digits_at}
use Rattle.card.proofs.digits_at.Goals as goal

pub loop-k-init : goal.loop-k-init
loop-k-init c = (refl, fill_none _ (replicate 12 0))

pub loop-k-preserved : goal.loop-k-preserved
loop-k-preserved c =
    let l = c.loop-k in
    (simp length-set l.invariant.0, rw c.byte_at.ensures (fill_more (λ (i : ℕ). get_or c.args.c.now (1 + i) 0) l.d l.k (omega arith) l.invariant.1))

pub returns : goal.returns
unfolding digits_at
returns c =
    let e : c.loop-k.k ≡ 12 = omega arith in
    fill_all _ _ 12 c.loop-k.invariant.0 (rw e at c.loop-k.invariant.1)
