-- `poll::read_on` meets its contract: what is gathered so far, with what is left to read.
use Prim.Native.Nat.{ℕ, ◌+◌, ◌-◌, ◌*◌}
use mathlib.Core.Path.{sym, ap, ap₂, ◌∙◌}
use mir.Syntax.{w64}
use mir.Val.{SFits}
use mir.Facts.{to_z-of_z}
use native.Mathlib.Omega.{arith}
use borrow.Author.Rules.{rules}
use Rattle.packet.specs.Commands.{registers_from}
use Rattle.poll.specs.Polls.{read_at}
use Rattle.poll.specs.Inside.{read_into}
use Rattle.poll.proofs.Registers.{read_one, read_none, read_all}
use Rattle.poll.proofs.read_on.Goals as goal

pub loop-k-preserved : goal.loop-k-preserved
loop-k-preserved c =
    let args = c.args in
    let k = c.loop-k.k in
    let at = args.pointer + 3 * k in
    let v = c.in-Ok.v in
    let fits : SFits w64 v = search rules in
    let test = c.loop-k-test.true in
    ap₂ (λ (at n : ℕ). read_into (read_at args.h) (registers_from at n) c.keep-got.result) (omega arith) (omega arith)
    ∙ ap (read_into (read_at args.h) (registers_from (at + 3) (args.n - k - 1))) (rw (to_z-of_z fits) at c.keep-got.ensures)
    ∙ sym (read_one (read_at args.h) c.loop-k.got at (args.n - k) (omega arith) v (sym c.in-Ok.ensures))
    ∙ c.loop-k.invariant

pub returns-in_default : goal.returns-in_default
returns-in_default c =
    let k = c.loop-k.k in
    let test = c.loop-k-test.true in
    sym (read_none (read_at c.args.h) c.loop-k.got (c.args.pointer + 3 * k) (c.args.n - k) (omega arith) _ (sym c.in_default.ensures)) ∙ c.loop-k.invariant

pub returns : goal.returns
returns c =
    let k = c.loop-k.k in
    sym (read_all (read_at c.args.h) c.loop-k.got (c.args.pointer + 3 * k) (c.args.n - k) (omega arith)) ∙ c.loop-k.invariant
