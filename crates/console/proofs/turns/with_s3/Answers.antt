-- `with_s3` is a block behind its second bar.
use Prim.Native.Nat.{ℕ, ◌-◌}
use mathlib.Core.Path.{ap, ◌∙◌}
use lib.ListN.{length, take, drop}
use Rattle.console.specs.declared.unread.Why.{Why}
use Rattle.console.specs.Unread.{slice_stopped}
use Rattle.console.specs.Turns.{unread_turn}
use Rattle.console.proofs.TextLaws.{rest_of}
use Rattle.console.proofs.TurnLaws.{done_turn, odd_sample, whole_block}
use Rattle.console.proofs.turns.with_s3.Goals as goal
use Rattle.console.proofs.turns.with_s3.Goals.{After-take_samples-n}

pub returns-then-n-text : goal.returns-then-n-text
returns-then-n-text c =
    let t = c.take_samples-n in
    let at = t.result.taken in
    let text = c.args.text.now in
    ap (λ (w : Why). unread_turn c.args.m.now w)
    (c.slice_stopped.ensures ∙ ap (λ (n : ℕ). slice_stopped n t.result.count (take (length text - at) (drop at text))) t.auto.into
    ∙ ap (slice_stopped (length c.args.s3.now) t.result.count) (rest_of at text))
    ∙ odd_sample _ _ _ _ _ _ _ _ t.ensures c.if-n-text.true

pub returns : goal.returns
returns c =
    let t = c.take_samples-n in
    done_turn _ _ _ _ c.done.ensures c.block.ensures ∙ whole_block _ _ _ _ _ _ _ _ t.ensures c.if-n-text.false
