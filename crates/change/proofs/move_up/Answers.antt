-- `change::move_up` meets its contract: the bytes from i on are moved.
use Prim.Native.Nat.{ℕ, ◌+◌, ◌-◌}
use mathlib.Core.Path.{◌≡◌, sym, ap, ◌∙◌}
use native.Mathlib.Omega.{arith}
use Rattle.serial.specs.Places.{part, put}
use Rattle.serial.proofs.Places.{move_more, put_part_none}
use Rattle.change.proofs.move_up.Goals as goal

pub loop-i-init : goal.loop-i-init
loop-i-init c = (omega arith, sym (put_part_none _ _ _))

pub loop-i-preserved : goal.loop-i-preserved
loop-i-preserved c =
    let a = c.args in
    let i = c.loop-i.i in
    let e : i ≡ i - 1 + 1 = omega arith in (
      omega arith,
      move_more a.b.now (i - 1) a.to a.by (omega arith) (omega arith) c.loop-i.b
          (c.loop-i.invariant.1 ∙ ap (λ (n : ℕ). put a.b.now (n + a.by) (part a.b.now n (a.to - n))) e),
    )

pub returns : goal.returns
returns c =
    let e : c.loop-i.i ≡ c.args.from = omega arith in
    rw e at c.loop-i.invariant.1
