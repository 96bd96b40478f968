-- `poll::gather` meets its contract: what is gathered so far, with what the commands to come ask for.
use Prim.Native.Nat.{ℕ, ◌+◌, ◌-◌}
use mathlib.Core.Path.{◌≡◌, sym, ap, ◌∙◌}
use mathlib.Core.List.{List}
use native.Mathlib.Omega.{arith}
use lib.ListN.{length, drop, get_or, length-drop}
use lib.Seq.{take_all}
use Rattle.packet.specs.Commands.{command_of, asked_from}
use Rattle.packet.proofs.Bounds.{parameters_most}
use Rattle.poll.specs.Polls.{read_at}
use Rattle.poll.specs.Inside.{walked, gathers}
use Rattle.poll.proofs.Gathers.{handed_on, turn_over, turn_on, turn_last}
use Rattle.poll.proofs.gather.Goals as goal
use Rattle.poll.proofs.gather.Goals.{After-walk}

-- what the command at the place comes to
here : (c : After-walk) →
    let cs = c.args.commands.now in
    c.walk.result ≡ walked (read_at c.args.h) c.loop-at.d c.loop-at.g (command_of c.loop-at.d (get_or cs c.loop-at.at 0) (drop (c.loop-at.at + 1) cs))
here c =
    let cs = c.args.commands.now in
    c.walk.ensures
    ∙ ap (λ (r : List ℕ). walked (read_at c.args.h) c.loop-at.d c.loop-at.g (command_of c.loop-at.d (get_or cs c.loop-at.at 0) r))
    (take_all (length cs - (c.loop-at.at + 1)) (drop (c.loop-at.at + 1) cs) (omega (arith, length-drop (c.loop-at.at + 1) cs)))

pub returns-in_err-w : goal.returns-in_err-w
returns-in_err-w c =
    let loop = c.loop-at in
    handed_on _ _ c.from_residual.ensures.1
    ∙ sym (turn_over (read_at c.args.h) c.args.commands.now loop.at (omega arith) loop.d loop.g _ (sym (here (goal.at.returns-in_err-w c).After-walk) ∙ c.in_err-w.was))
    ∙ loop.invariant

pub overflow_add-at : goal.overflow_add-at
overflow_add-at c =
    let good = c.well_formed in
    omega (arith, c.parameters.ensures, parameters_most (get_or c.args.commands.now c.loop-at.at 0), good)

pub loop-at-preserved : goal.loop-at-preserved
loop-at-preserved c =
    let loop = c.loop-at in
    let cs = c.args.commands.now in
    let w = c.in_ok-w.w in
    ap (λ (n : ℕ). gathers (read_at c.args.h) w.gathered (asked_from (drop (loop.at + 1 + n) cs) 0 w.device)) c.parameters.ensures
    ∙ sym (turn_on (read_at c.args.h) cs loop.at (omega arith) loop.d loop.g w (sym (here (goal.at.loop-at-preserved c).After-walk) ∙ c.in_ok-w.was))
    ∙ loop.invariant

pub returns : goal.returns
returns c =
    let loop = c.loop-at in
    sym (turn_last (read_at c.args.h) c.args.commands.now loop.at loop.d loop.g (omega arith)) ∙ loop.invariant
