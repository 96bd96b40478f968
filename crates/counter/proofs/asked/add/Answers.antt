-- `counter::asked::add` meets its contract.
use mathlib.Core.Path.{ap, ◌∙◌}
use mathlib.Core.List.{List}
use lib.IntN.{ℤ, pos}
use lib.ListN.{get_or}
use borrow.Author.Rules.{rules}
use mir.Syntax.{w64}
use mir.Val.{SFits}
use mir.Facts.{to_z-of_z}
use native.Mathlib.Omega.{arith}
use Rattle.change.specs.Change.{add_answer, added}
use Rattle.stock.specs.Signed.{signed}
use Rattle.counter.specs.Asked.{answered_of}
use Rattle.counter.proofs.Said.{add_back, eight_of}
use Rattle.counter.proofs.asked.add.Goals as goal

pub returns : goal.returns
returns c =
    let a = c.args in
    let s0 : SFits w64 (get_or a.values 0 (pos 0)) = search rules in
    let s1 : SFits w64 (get_or a.values 1 (pos 0)) = search rules in
    let s2 : SFits w64 (get_or a.values 2 (pos 0)) = search rules in
    let s3 : SFits w64 (get_or a.values 3 (pos 0)) = search rules in
    let s4 : SFits w64 (get_or a.values 4 (pos 0)) = search rules in
    let s5 : SFits w64 (get_or a.values 5 (pos 0)) = search rules in
    let s6 : SFits w64 (get_or a.values 6 (pos 0)) = search rules in
    let s7 : SFits w64 (get_or a.values 7 (pos 0)) = search rules in
    let e = rw (
      to_z-of_z s0,
      to_z-of_z s1,
      to_z-of_z s2,
      to_z-of_z s3,
      to_z-of_z s4,
      to_z-of_z s5,
      to_z-of_z s6,
      to_z-of_z s7,
    ) at c.stock_add.ensures in
    let all = eight_of a.values (omega arith) in
    let said = to_z-of_z {w = w64} (record { sfits = c.stock_add.type_inv }) ∙ e.0 ∙ ap (λ (f : List ℤ). signed (add_answer a.buffer.now a.used a.label.now f)) all in
    (c.answered.ensures ∙ ap answered_of said ∙ add_back a.buffer.now a.used a.label.now a.values, e.1 ∙ ap (added a.buffer.now a.used a.label.now) all)
