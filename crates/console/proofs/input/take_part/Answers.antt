-- `take_part` goes from line feed to line feed: what it makes of the bytes is the talk that they are.
use Prim.Native.Nat.{◌+◌, ◌≤◌}
use mathlib.Core.Path.{◌≡◌, refl, sym, ap, ◌∙◌}
use native.Mathlib.Omega.{arith}
use mathlib.Core.List.{[]}
use lib.ListN.{length, take, drop, length-drop, length-take, drop_of_length-le}
use Rattle.console.specs.Texts.{length_to}
use Rattle.console.specs.Session.{Talk, talk_of, talked}
use Rattle.console.proofs.TextLaws.{to_within, rest_of}
use Rattle.console.proofs.SessionLaws.{turn_keeps, turn_answers, kept_talk}
use Rattle.console.proofs.input.take_part.Goals as goal
use Rattle.console.proofs.input.take_part.Goals.{After-keep-kept, After-length_to-n}

pub loop-at-init : goal.loop-at-init
loop-at-init c =
    let r = c.requires in (
      record {
        kept = r.kept;
        used = omega (arith, r.used);
        line_room = r.line_room;
        v_room = r.v_room;
        s1_room = r.s1_room;
        s3_room = r.s3_room;
      },
      omega arith,
      refl,
      refl,
      refl,
      refl,
      refl,
      refl,
    )

-- the line's end is within the part
reach : (c : After-length_to-n) → c.loop-at.at + c.length_to-n.result ≤ length c.args.part.now
reach c =
    let part = c.args.part.now in
    let at = c.loop-at.at in
    omega (arith, c.length_to-n.ensures ∙ ap (length_to 10) (rest_of at part), to_within 10 (drop at part), length-drop at part, c.loop-at.invariant.1)

pub overflow_add-e : goal.overflow_add-e
overflow_add-e c = omega (arith, reach (goal.at.overflow_add-e c).After-length_to-n, c.well_formed)

pub slice_bounds-keep-end : goal.slice_bounds-keep-end
slice_bounds-keep-end c = reach (goal.at.slice_bounds-keep-end c).After-length_to-n

pub keep-kept-requires : goal.keep-kept-requires
keep-kept-requires c = c.loop-at.invariant.0.kept

-- how far it is to the next line feed
feed : (c : After-length_to-n) → c.length_to-n.result ≡ length_to 10 (drop c.loop-at.at c.args.part.now)
feed c = c.length_to-n.ensures ∙ ap (length_to 10) (rest_of c.loop-at.at c.args.part.now)

-- the bytes before it are kept
kept_on : (c : After-keep-kept) → c.length_to-n.result ≡ length_to 10 (drop c.loop-at.at c.args.part.now) →
    let a = c.args in
    talked (record { state = c.loop-at.s.«module»; kept = take c.keep-kept.result c.keep-kept.new.line; said = take c.loop-at.s.used c.loop-at.out }) (drop (c.loop-at.at + c.length_to-n.result) a.part.now)
    ≡ talked (talk_of a.s a.line.now a.out.now) a.part.now
kept_on c f =
    let a = c.args in
    let r = c.length_to-n.result in
    let s = c.loop-at.s in
    ap (λ (t : Talk). talked t (drop (c.loop-at.at + r) a.part.now))
    (kept_talk s.«module» (take s.used c.loop-at.out) c.loop-at.line a.part.now _ c.loop-at.at r s.kept c.loop-at.invariant.0.line_room c.keep-kept.ensures.line_after)
    ∙ sym (turn_keeps a.part.now c.loop-at.at r f (talk_of s c.loop-at.line c.loop-at.out) (simp length-take (omega (arith, c.loop-at.invariant.0.line_room))))
    ∙ c.loop-at.invariant.2

-- and the session is ready for an answer
ready : (c : After-keep-kept) → c.keep-kept.result ≤ length c.keep-kept.new.line
ready c = omega (arith, c.keep-kept.ensures.upper_bound, c.keep-kept.auto.line)

pub end_line-s-requires : goal.end_line-s-requires
end_line-s-requires c =
    let i = c.loop-at.invariant in
    record {
      kept = ready (goal.at.end_line-s-requires c).After-keep-kept;
      used = omega (arith, i.0.used, c.if-at-part.true, reach (goal.at.end_line-s-requires c).After-length_to-n);
      line_room = c.keep-kept.auto.line ∙ i.0.line_room;
      v_room = i.0.v_room;
      s1_room = i.0.s1_room;
      s3_room = i.0.s3_room;
    }

pub overflow_add-at : goal.overflow_add-at
overflow_add-at c = omega (arith, c.if-at-part.true, c.well_formed)

pub loop-at-preserved-then-at-part : goal.loop-at-preserved-then-at-part
loop-at-preserved-then-at-part c =
    let a = c.args in
    let i = c.loop-at.invariant in
    let m = c.end_line-s.auto in
    let f = c.if-at-part.true in
    let e = c.end_line-s.ensures in
    let n = feed (goal.at.loop-at-preserved-then-at-part c).After-length_to-n in (
      record {
        kept = omega (arith, e.kept_value.0);
        used = omega (arith, i.0.used, e.kept_value.1, f, m.out);
        line_room = c.keep-kept.auto.line ∙ i.0.line_room;
        v_room = m.v ∙ i.0.v_room;
        s1_room = m.s1 ∙ i.0.s1_room;
        s3_room = m.s3 ∙ i.0.s3_room;
      },
      omega arith,
      turn_answers a.part.now c.loop-at.at c.length_to-n.result n _ _ e.out_after f ∙ kept_on (goal.at.loop-at-preserved-then-at-part c).After-keep-kept n,
      c.keep-kept.auto.line ∙ i.3,
      m.v ∙ i.4,
      m.s1 ∙ i.5,
      m.s3 ∙ i.6,
      m.out ∙ i.7,
    )

pub loop-at-preserved : goal.loop-at-preserved
loop-at-preserved c =
    let i = c.loop-at.invariant in (
      record {
        kept = ready (goal.at.loop-at-preserved c).After-keep-kept;
        used = omega (arith, i.0.used);
        line_room = c.keep-kept.auto.line ∙ i.0.line_room;
        v_room = i.0.v_room;
        s1_room = i.0.s1_room;
        s3_room = i.0.s3_room;
      },
      reach (goal.at.loop-at-preserved c).After-length_to-n,
      kept_on (goal.at.loop-at-preserved c).After-keep-kept (feed (goal.at.loop-at-preserved c).After-length_to-n),
      c.keep-kept.auto.line ∙ i.3,
      i.4,
      i.5,
      i.6,
      i.7,
    )

pub shape_of-line : goal.shape_of-line
shape_of-line c = c.loop-at.invariant.3

pub shape_of-v : goal.shape_of-v
shape_of-v c = c.loop-at.invariant.4

pub shape_of-s1 : goal.shape_of-s1
shape_of-s1 c = c.loop-at.invariant.5

pub shape_of-s3 : goal.shape_of-s3
shape_of-s3 c = c.loop-at.invariant.6

pub shape_of-out : goal.shape_of-out
shape_of-out c = c.loop-at.invariant.7

-- at the end of the part nothing is left
nil : (t : Talk) → t ≡ talked t []
unfolding talked
nil t = refl

pub returns : goal.returns
returns c =
    let i = c.loop-at.invariant in
    let part = c.args.part.now in
    let t = talk_of c.loop-at.s c.loop-at.line c.loop-at.out in
    record {
      out_after = nil t ∙ ap (talked t) (sym (drop_of_length-le part {i = c.loop-at.at} (omega arith))) ∙ i.2;
      kept_bound = (omega (arith, i.0.kept, i.0.line_room), omega (arith, i.0.used));
    }
