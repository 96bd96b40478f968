-- `with_text` is a line with a port and a text.
use Prim.Native.Nat.{◌-◌, ◌≤◌}
use mathlib.Core.Path.{◌≡◌, sym, ap, ◌∙◌}
use mathlib.Core.List.{[], ◌∷◌}
use lib.ListN.{length, take, drop}
use mir.Syntax.{w64}
use mir.Val.{SFits}
use mir.Facts.{to_z-of_z}
use Rattle.console.specs.declared.words.Word.TheVariants.{Open}
use Rattle.console.specs.declared.unread.Why.{Why}
use Rattle.console.specs.Texts.{begins_with}
use Rattle.console.specs.Words.{items_of}
use Rattle.console.specs.Unread.{stopped_before}
use Rattle.console.specs.Turns.{nth, unread_turn}
use Rattle.console.proofs.TextLaws.{begins_is, rest_of}
use Rattle.console.proofs.ItemLaws.{row_within}
use Rattle.console.proofs.TurnLaws.{done_turn, no_port, no_text, some_text}
use borrow.Author.Rules.{rules}
use Rattle.console.proofs.turns.with_text.Goals as goal
use Rattle.console.proofs.turns.with_text.Goals.{After-take_items-n}

inside : (c : After-take_items-n) → c.take_items-n.result.taken ≤ length c.args.rest.now
inside c = rw c.take_items-n.ensures.bytes (row_within (items_of Open) c.args.rest.now)

behind : (c : After-take_items-n) → take (length c.args.rest.now - c.take_items-n.result.taken) (drop c.take_items-n.result.taken c.args.rest.now) ≡ drop c.take_items-n.result.taken c.args.rest.now
behind c = rest_of c.take_items-n.result.taken c.args.rest.now

pub slice_bounds-behind-count : goal.slice_bounds-behind-count
slice_bounds-behind-count c = inside (goal.at.slice_bounds-behind-count c).After-take_items-n

pub slice_bounds-behind-start : goal.slice_bounds-behind-start
slice_bounds-behind-start c = inside (goal.at.slice_bounds-behind-start c).After-take_items-n

pub returns-then-n-lt1 : goal.returns-then-n-lt1
returns-then-n-lt1 c = ap (λ (w : Why). unread_turn c.args.m.now w) (c.stopped.ensures ∙ ap (stopped_before (items_of Open)) (rest_of c.take_items-n.result.taken c.args.rest.now))
    ∙ no_port _ _ _ _ _ c.take_items-n.ensures c.if-n-lt1.true

pub returns-in-Some : goal.returns-in-Some
returns-in-Some c =
    let t = c.take_items-n in
    let b = behind (goal.at.returns-in-Some c).After-take_items-n in
    let e = c.in-Some.ensures.cases in
    let port : SFits w64 (nth t.new.into 0) = search rules in
    let o = simp (to_z-of_z port, e.1, b) at c.«open».ensures in
    done_turn _ _ _ _ c.done.ensures o ∙ some_text _ _ _ _ _ t.ensures c.if-n-lt1.false (ap (begins_with (32 ∷ [])) (sym b) ∙ sym (begins_is _ _) ∙ e.0)

pub returns-in-None : goal.returns-in-None
returns-in-None c =
    let b = behind (goal.at.returns-in-None c).After-take_items-n in
    no_text _ _ _ _ _ c.take_items-n.ensures c.if-n-lt1.false (ap (begins_with (32 ∷ [])) (sym b) ∙ sym (begins_is _ _) ∙ c.in-None.ensures.cases)
