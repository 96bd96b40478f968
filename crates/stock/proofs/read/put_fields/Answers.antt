-- `stock::read::put_fields` meets its contract: the loop puts one field after another.
use mathlib.Core.Path.{◌≡◌, refl, sym, ap, ◌∙◌}
use mathlib.Core.Bool.{true}
use mathlib.Core.List.{List, ◌++◌}
use native.Mathlib.Omega.{arith}
use lib.IntN.{ℤ, pos}
use lib.ListN.{get_or, set, drop}
use lib.Seq.{take_all}
use mir.Syntax.{w32, w64}
use mir.Val.{SFits}
use mir.Facts.{to_z-of_z, sfits_widen}
use borrow.Author.Rules.{rules}
use Rattle.card.specs.Cards.{is_card}
use Rattle.card.specs.declared.Card.{Card}
use Rattle.stock.proofs.Fields.{front_more}
use Rattle.stock.proofs.Reading.{no_card, no_fields_room, fields_read}
use Rattle.stock.proofs.read.put_fields.Goals as goal
use Rattle.stock.proofs.read.put_fields.Goals.{Else-not-is_card}

pub returns-then-not-is_card : goal.returns-then-not-is_card
returns-then-not-is_card c = no_card _ _ (sym c.is_card.ensures ∙ c.if-not-is_card.true)

right : (c : Else-not-is_card) → is_card c.args.card.now ≡ true
right c = sym c.is_card.ensures ∙ c.if-not-is_card.false

pub returns-then-to-lt8 : goal.returns-then-to-lt8
returns-then-to-lt8 c = no_fields_room _ _ (right (goal.at.returns-then-to-lt8 c).Else-not-is_card) c.if-to-lt8.true

pub loop-k-init : goal.loop-k-init
loop-k-init c = refl

pub loop-k-preserved : goal.loop-k-preserved
loop-k-preserved c =
    let l = c.loop-k in
    let fields = c.of.result.fields in
    let s : SFits w32 (get_or fields l.k (pos 0)) = search rules in
    rw (c.from.ensures, to_z-of_z s, to_z-of_z {w = w64} (sfits_widen tt s))
    (ap (λ (t : List ℤ). set t l.k (get_or fields l.k (pos 0))) l.invariant ∙ front_more fields c.args.to.now (pos 0) l.k (omega arith) (omega arith))

pub returns : goal.returns
returns c =
    let old = c.args.to.now in
    let e : c.loop-k.k ≡ 8 = omega arith in
    let all = rw (e, take_all 8 c.of.result.fields (omega arith)) at c.loop-k.invariant in
    let r = fields_read c.args.card.now old (right (goal.at.returns c).Else-not-is_card) (omega arith) in
    (r.0, all ∙ ap (λ (a : Card). a.fields ++ drop 8 old) c.of.ensures ∙ r.1)
