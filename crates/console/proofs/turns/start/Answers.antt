-- `start` is the step that thirteen numbers make.
use mathlib.Core.Path.{◌≡◌, sym, ap, ◌∙◌}
use mir.Syntax.{w64}
use mir.Val.{SFits}
use mir.Facts.{to_z-of_z}
use Rattle.steps.specs.Answers.{OrRefusal, accepted, and_then, answer_of}
use Rattle.steps.proofs.Answers.{handed_on}
use Rattle.aberzhan.specs.declared.Module.{Module}
use Rattle.aberzhan.specs.Module.{Outcome, started, start_of}
use Rattle.console.specs.declared.turns.Said.TheVariants as said
use Rattle.console.specs.Inside.{slots_of}
use Rattle.console.specs.Turns.{nth, asked_of}
use Rattle.console.proofs.TurnLaws.{start_refused, start_done}
use borrow.Author.Rules.{rules}
use Rattle.console.proofs.turns.start.Goals as goal
use Rattle.console.proofs.turns.start.Goals.{After-start-s}

-- the start that is asked for
begun : (c : After-start-s) → started c.start-s.result ≡ start_of (nth c.args.x 0) (nth c.args.x 1) (slots_of c.args.x) (asked_of c.args.x) (nth c.args.x 12)
begun c =
    let n : SFits w64 (nth c.args.x 0) = search rules in
    let b : SFits w64 (nth c.args.x 1) = search rules in
    let config : SFits w64 (nth c.args.x 12) = search rules in
    simp (to_z-of_z n, to_z-of_z b, to_z-of_z config, c.slots.ensures, c.asked.ensures) at c.start-s.ensures

pub returns-in_err-s : goal.returns-in_err-s
returns-in_err-s c =
    let s = begun (goal.at.returns-in_err-s c).After-start-s in
    let m = c.args.m.now in
    ap (λ (a : OrRefusal (Unit {0})). record { said = and_then a (λ u. said.Done); after = m }) (handed_on _ _ c.from_residual.ensures.1)
    ∙ start_refused m _ _ (sym (ap (λ (o : Outcome (Unit {0})). o.answer) s) ∙ ap answer_of c.in_err-s.was)

pub returns : goal.returns
returns c =
    let s = begun (goal.at.returns c).After-start-s in
    ap (λ (a : Module). record { said = accepted said.Done; after = a }) (ap (λ (o : Outcome (Unit {0})). o.after) s)
    ∙ start_done c.args.m.now _ (sym (ap (λ (o : Outcome (Unit {0})). o.answer) s) ∙ ap answer_of c.in_ok-s.was)
