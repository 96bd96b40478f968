-- `poll::asked` meets its contract.
use Prim.Native.Nat.{ℕ, ◌≤◌}
use mathlib.Core.Path.{sym, ap, ◌∙◌}
use mathlib.Core.List.{List}
use native.Mathlib.Omega.{arith}
use lib.ListN.{length}
use Rattle.packet.proofs.Judging.{whole_long}
use Rattle.packet.specs.Commands.{asked_from, at_first}
use Rattle.poll.specs.Polls.{read_at}
use Rattle.poll.specs.Inside.{none_gathered, gathers}
use Rattle.poll.proofs.Answering.{commands_lent, asked_whole, asked_ending}
use Rattle.poll.proofs.asked.Goals as goal
use Rattle.poll.proofs.asked.Goals.{In-Whole}

-- a packet that is whole has at least 3 bytes
long : (c : In-Whole) → 3 ≤ length c.args.packet.now
long c = whole_long c.args.packet.now (sym c.in-Whole.ensures)

pub overflow_sub-end : goal.overflow_sub-end
overflow_sub-end c = omega (arith, long c)

pub slice_bounds-gather-count : goal.slice_bounds-gather-count
slice_bounds-gather-count c = omega (arith, long c)

pub slice_bounds-gather-start : goal.slice_bounds-gather-start
slice_bounds-gather-start c = omega (arith, long c)

pub returns-in-Whole : goal.returns-in-Whole
returns-in-Whole c =
    let args = c.args in
    c.gather.ensures
    ∙ ap (λ (r : List ℕ). gathers (read_at args.h) none_gathered (asked_from r 0 at_first)) (commands_lent args.packet.now)
    ∙ asked_whole args.h args.packet.now (sym c.in-Whole.ensures)

pub returns-in_default : goal.returns-in_default
returns-in_default c = asked_ending c.args.h c.args.packet.now _ c.in_default.not-Whole (sym c.judge.ensures)
