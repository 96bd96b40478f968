-- `poll::put_registers` meets its contract: so many registers stand behind one another.
use lib.IntN.{pos}
use lib.ListN.{get_or}
use mir.Syntax.{w64}
use mir.Val.{SFits}
use mir.Facts.{to_z-of_z}
use Rattle.serial.specs.Places.{put_within}
use Rattle.card.specs.Cards.{bits24, three_bytes}
use Rattle.poll.proofs.Putting.{registers_none, registers_more, registers_all}
use Prim.Native.Nat.{◌+◌, ◌*◌}
use mathlib.Core.Path.{◌≡◌, refl, ap, ◌∙◌}
use native.Mathlib.Omega.{arith}
use borrow.Author.Rules.{rules}
use Rattle.poll.proofs.put_registers.Goals as goal
use Rattle.poll.proofs.put_registers.Goals.{After-put_at}

pub loop-k-init : goal.loop-k-init
loop-k-init c = (refl, registers_none _)

-- a register's three bytes at their place
written : (c : After-put_at) →
    c.put_at.new.b ≡ put_within c.loop-k.out (2 + 3 * c.loop-k.k) (three_bytes (bits24 (get_or c.args.values.now c.loop-k.k (pos 0))))
written c =
    let fits : SFits w64 (get_or c.args.values.now c.loop-k.k (pos 0)) = search rules in
    c.put_at.ensures ∙ ap (put_within _ _) (rw (to_z-of_z fits) at c.field_bytes-three.ensures)

pub loop-k-preserved : goal.loop-k-preserved
loop-k-preserved c =
    let args = c.args in
    let pre = c.requires in
    let loop = c.loop-k in (
      (search rules)
          ∙ loop.invariant.0,
      registers_more args.out.now loop.out c.put_at.new.b args.values.now loop.k (omega arith) pre.1 loop.invariant.0 loop.invariant.1 (written (goal.at.loop-k-preserved c).After-put_at),
    )

pub returns : goal.returns
returns c = c.loop-k.invariant.1 ∙ registers_all c.args.out.now c.args.values.now c.loop-k.k (omega arith)
