-- `counter::asked::answered` meets its contract.
use mathlib.Core.Path.{ap, ◌∙◌}
use mir.Facts.{to_z-of_z}
use Rattle.std.specs.Prelude.{Option, unwrap_or}
use Rattle.refusal.specs.declared.Refusal.{Refusal}
use Rattle.refusal.specs.declared.Refusal.TheVariants.{Malformed}
use Rattle.refusal.specs.Numbers.{number_of, numbered}
use Rattle.book.specs.Answers.{accepted, refused}
use Rattle.counter.proofs.Said.{said_accepted, said_refused}
use Rattle.counter.proofs.asked.answered.Goals as goal

pub returns-then-answer-ge0 : goal.returns-then-answer-ge0
returns-then-answer-ge0 c =
    let h = rw (to_z-of_z c.ranges.answer) at c.if-answer-ge0.true in
    ap accepted (rw (to_z-of_z c.ranges.answer) at c.unsigned_abs-size.ensures.value) ∙ said_accepted c.args.answer h

pub returns : goal.returns
returns c =
    let h = rw (to_z-of_z c.ranges.answer) at c.if-answer-ge0.false in
    let e = rw (to_z-of_z c.ranges.answer) at c.unsigned_abs-size.ensures.value in
    let r = c.unwrap_or.ensures ∙ ap (λ (o : Option Refusal). unwrap_or o Malformed) (c.of_number.ensures ∙ ap numbered e) in
    ap (λ (x : Refusal). refused (number_of x)) r ∙ said_refused c.args.answer h
