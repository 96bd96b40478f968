-- `put_bytes` puts bytes. Those that are put and the rest make up the whole.
use mathlib.Core.Path.{sym, ap, ◌∙◌}
use mathlib.Core.List.{List, ◌++◌, append-nil}
use lib.ListN.{take}
use Rattle.console.proofs.AnswerLaws.{no_byte}
use Rattle.console.proofs.output.put_bytes.Goals as goal

pub returns-clause-out_after : goal.returns-clause-out_after
returns-clause-out_after c =
    let l = c.loop-b in
    sym (append-nil (take l.at l.out)) ∙ ap (λ (t : List _). take l.at l.out ++ t) (sym (no_byte c.args.bytes.now l.b-index c.loop-b-test.false)) ∙ l.invariant.2
