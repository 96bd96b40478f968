-- `all_in_range` meets its contract. The loop gathers the tests: what was gathered, and the test of what is left, is the test of all.
use Rattle.std.proofs.Common.{◌+◌, ◌≡◌, sym, ap, ◌∙◌, Bool, ◌&&◌, rules, drop, get_or, pos}
use mathlib.Core.Bool.{and_assoc, and-true}
use mir.Syntax.{w32}
use mir.Val.{SFits}
use mir.Facts.{to_z-of_z}
use Rattle.sample.specs.Sample.{every24}
use Rattle.sample.proofs.Ranges.{every_more, every_end}
use Rattle.sample.proofs.all_in_range.Goals as goal

pub loop-x-preserved : goal.loop-x-preserved
loop-x-preserved c =
    let a = c.args.a.now in
    let k = c.loop-x.x-index in
    let ok = c.loop-x.ok in
    let h : SFits w32 (get_or a k (pos 0)) = search rules in
    let e = rw (to_z-of_z h) at c.in_range-ok.ensures in
    let more : every24 (drop k a) ≡ c.in_range-ok.result && every24 (drop (k + 1) a) = every_more a k c.loop-x-test.true ∙ rw e in
    and_assoc ok c.in_range-ok.result (every24 (drop (k + 1) a)) ∙ ap (λ (t : Bool). ok && t) (sym more) ∙ c.loop-x.invariant

pub returns : goal.returns
returns c =
    let ok = c.loop-x.ok in
    sym (and-true ok) ∙ ap (λ (t : Bool). ok && t) (sym (every_end c.args.a.now c.loop-x.x-index c.loop-x-test.false)) ∙ c.loop-x.invariant
