-- `end_line` answers a line, and leaves the session at the beginning of the next.
use Prim.Native.Nat.{◌≤◌}
use mathlib.Core.Path.{◌≡◌, refl, sym, ap, ◌∙◌}
use mathlib.Core.List.{◌++◌}
use native.Mathlib.Omega.{arith}
use lib.ListN.{length, take}
use lib.Seq.{length-take-le}
use Rattle.console.specs.Turns.{Turn, turned}
use Rattle.console.specs.Texts.{without_return}
use Rattle.console.specs.Answers.{answer_text}
use Rattle.console.specs.Session.{silent, line_turn, talk_of}
use Rattle.console.proofs.SessionLaws.{line_kept, return_within, ends_silent, ends_answered}
use Rattle.console.proofs.input.end_line.Goals as goal
use Rattle.console.proofs.input.end_line.Goals.{After-is_silent, After-line_length-n, After-take_line-answer}

-- `end_line` answers a line, and leaves the session at the beginning of the next.
line : (c : After-line_length-n) → take c.line_length-n.result c.args.line.now ≡ without_return (take c.args.s.kept c.args.line.now)
line c = line_kept c.args.line.now c.args.s.kept c.line_length-n.result c.line_length-n.ensures

within : (c : After-line_length-n) → c.line_length-n.result ≤ length c.args.line.now
within c = omega (arith, c.line_length-n.ensures, return_within (take c.args.s.kept c.args.line.now), length-take-le c.args.s.kept c.args.line.now c.requires.kept, c.requires.kept)

quiet : (c : After-is_silent) → c.is_silent.result ≡ silent (without_return (take c.args.s.kept c.args.line.now))
quiet c = c.is_silent.ensures ∙ ap silent (line_kept c.args.line.now c.args.s.kept c.line_length-n.result c.line_length-n.ensures)

turn : (c : After-take_line-answer) → turned c.take_line-answer.result c.take_line-answer.new.m ≡ line_turn c.args.s.«module» (without_return (take c.args.s.kept c.args.line.now))
turn c = rw (c.requires.v_room, c.requires.s1_room, c.requires.s3_room, line_kept c.args.line.now c.args.s.kept c.line_length-n.result c.line_length-n.ensures) at c.take_line-answer.ensures

pub slice_bounds-line_length-end : goal.slice_bounds-line_length-end
slice_bounds-line_length-end c = sym (length-take-le _ _ c.requires.kept)

pub slice_bounds-is_silent-end : goal.slice_bounds-is_silent-end
slice_bounds-is_silent-end c = sym (length-take-le _ _ (within (goal.at.slice_bounds-is_silent-end c).After-line_length-n))

pub returns-then-is_silent : goal.returns-then-is_silent
returns-then-is_silent c = record {
  out_after = sym (ends_silent (talk_of c.args.s c.args.line.now c.args.out.now) (sym (quiet (goal.at.returns-then-is_silent c).After-is_silent) ∙ c.if-is_silent.true));
  kept_value = (refl, omega arith);
}

pub slice_bounds-take_line-end : goal.slice_bounds-take_line-end
slice_bounds-take_line-end c = sym (length-take-le _ _ (within (goal.at.slice_bounds-take_line-end c).After-line_length-n))

pub put_answer-requires : goal.put_answer-requires
put_answer-requires c = omega (arith, c.requires.used)

pub returns : goal.returns
returns c =
    let line = c.args.line.now in
    let out = c.args.out.now in
    let p = c.put_answer.ensures in
    let t = turn (goal.at.returns c).After-take_line-answer in
    let z = p.0 ∙ ap (λ (u : Turn). take c.args.s.used out ++ answer_text u) t in
    record {
      out_after =
          (λ j. record { state = (t j).after; kept = take 0 line; said = z j })
          ∙ sym (ends_answered (talk_of c.args.s line out) (sym (quiet (goal.at.returns c).After-is_silent) ∙ c.if-is_silent.false));
      kept_value = (refl, p.1);
    }
