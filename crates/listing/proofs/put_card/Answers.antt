-- `listing::put_card` meets its contract.
use Prim.Native.Nat.{◌≤◌}
use mathlib.Core.Path.{◌≡◌, ap}
use mathlib.Core.List.{[], ◌∷◌, ◌++◌}
use native.Mathlib.Omega.{arith}
use lib.ListN.{length, length-append}
use Rattle.serial.specs.Serials.{text_of}
use Rattle.card.specs.Cards.{fields_at}
use Rattle.card.specs.declared.Card.{Card}
use Rattle.listing.specs.Lines.{fields_text, card_text}
use Rattle.listing.proofs.Lines.{made_more, text_short}
use Rattle.listing.proofs.put_card.Goals as goal
use Rattle.listing.proofs.put_card.Goals.{After-of-card, After-text_of}

short : (c : After-text_of) → length c.text_of.result.now ≤ 37
short c = rw c.text_of.ensures (text_short c.args.c.now 37 c.requires.0)

-- the fields are those of the card
read : (c : After-of-card) → c.of-card.result.fields ≡ fields_at c.args.c.now
read c = ap (λ (x : Card). x.fields) c.of-card.ensures

pub put_text-at-requires : goal.put_text-at-requires
put_text-at-requires c = omega (arith, short c, c.requires.1)

pub put_fields-end-requires : goal.put_fields-end-requires
put_fields-end-requires c = omega (arith, c.put_text-at.ensures.0.place, short (goal.at.put_fields-end-requires c).After-text_of, c.requires.1)

pub put_text-requires : goal.put_text-requires
put_text-requires c =
    omega (arith, c.put_text-at.ensures.0.place, short (goal.at.put_text-requires c).After-text_of, c.put_fields-end.ensures.1, c.requires.1)

pub returns : goal.returns
unfolding card_text
returns c =
    let l = c.args.out.now in
    let text = text_of c.args.c.now in
    let fields = fields_text (fields_at c.args.c.now) in
    let e = rw c.text_of.ensures at c.put_text-at.ensures in
    let h = rw (read (goal.at.returns c).After-of-card) at c.put_fields-end.ensures in
    let g = c.put_text.ensures in
    let n = text_short c.args.c.now 37 c.requires.0 in
    let o : length l ≡ 205852 = e.1 in (
      made_more l c.put_fields-end.new.out c.put_text.new.out c.args.from c.put_fields-end.result c.put_text.result (text ++ fields) (10 ∷ [])
          (made_more l c.put_text-at.new.out c.put_fields-end.new.out c.args.from c.put_text-at.result c.put_fields-end.result text fields e.0 h.0
          (omega (arith, e.0.place, h.0.place, h.1, c.requires.1)))
          g.0 (omega (arith, e.0.place, h.0.place, h.1, c.requires.1, length-append text fields)),
      omega (arith, g.0.place, h.1, e.0.place, n),
    )
