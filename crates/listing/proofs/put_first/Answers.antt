-- `listing::put_first` meets its contract.
use Prim.Native.Nat.{◌≤◌}
use mathlib.Core.Path.{ap}
use mathlib.Core.List.{[], ◌∷◌, ◌++◌}
use native.Mathlib.Omega.{arith}
use lib.ListN.{length, length-append}
use Rattle.book.specs.Book.{cards, withdrawn}
use Rattle.section.specs.declared.Section.{Section}
use Rattle.decimal.specs.Decimals.{decimal}
use Rattle.listing.specs.Lines.{cards_word, withdrawn_word, first_line}
use Rattle.listing.specs.Buffer.{Made}
use Rattle.listing.proofs.Lines.{made_more, count_text, count_short}
use Rattle.listing.proofs.put_first.Goals as goal
use Rattle.listing.proofs.put_first.Goals.{After-put_number-b, After-put_number-d, After-withdrawn-withdrawn}

-- a count is below 65,536
cards_short : (c : After-withdrawn-withdrawn) → length (decimal (cards c.args.book.now).count) ≤ 5
cards_short c = let n = c.cards-cards in rw (← ap (λ (s : Section). s.count) n.ensures.0) (count_short _ n.ensures.1)

withdrawn_short : (c : After-withdrawn-withdrawn) → length (decimal (withdrawn c.args.book.now).count) ≤ 5
withdrawn_short c = let n = c.withdrawn-withdrawn in rw (← ap (λ (s : Section). s.count) n.ensures.0) (count_short _ n.ensures.1)

-- the two numbers as they stand in the line
first_number : (c : After-put_number-b)
    → Made c.put_text-a.new.out c.put_number-b.new.out c.put_text-a.result c.put_number-b.result
    (decimal (cards c.args.book.now).count)
first_number c =
    let n = c.cards-cards in
    rw (count_text n.result.count n.ensures.1, ap (λ (s : Section). s.count) n.ensures.0) at c.put_number-b.ensures.0

second_number : (c : After-put_number-d)
    → Made c.put_text-c.new.out c.put_number-d.new.out c.put_text-c.result c.put_number-d.result
    (decimal (withdrawn c.args.book.now).count)
second_number c =
    let n = c.withdrawn-withdrawn in
    rw (count_text n.result.count n.ensures.1, ap (λ (s : Section). s.count) n.ensures.0) at c.put_number-d.ensures.0

pub put_number-b-requires : goal.put_number-b-requires
put_number-b-requires c =
    let n = c.cards-cards in
    rw (count_text n.result.count n.ensures.1) (omega (arith, c.put_text-a.ensures.0.place, count_short n.result.count n.ensures.1))

pub put_text-c-requires : goal.put_text-c-requires
put_text-c-requires c = omega (arith, (first_number (goal.at.put_text-c-requires c).After-put_number-b).place, c.put_text-a.ensures.0.place, cards_short (goal.at.put_text-c-requires c).After-withdrawn-withdrawn)

pub put_number-d-requires : goal.put_number-d-requires
put_number-d-requires c =
    let w = c.withdrawn-withdrawn in
    rw (count_text w.result.count w.ensures.1)
    (omega (arith, c.put_text-c.ensures.0.place, (first_number (goal.at.put_number-d-requires c).After-put_number-b).place, c.put_text-a.ensures.0.place, cards_short (goal.at.put_number-d-requires c).After-withdrawn-withdrawn, count_short w.result.count w.ensures.1))

pub put_text-requires : goal.put_text-requires
put_text-requires c =
    omega (arith, (second_number (goal.at.put_text-requires c).After-put_number-d).place, c.put_text-c.ensures.0.place, (first_number (goal.at.put_text-requires c).After-put_number-b).place, c.put_text-a.ensures.0.place, cards_short (goal.at.put_text-requires c).After-withdrawn-withdrawn, withdrawn_short (goal.at.put_text-requires c).After-withdrawn-withdrawn)

pub returns : goal.returns
unfolding first_line cards_word withdrawn_word
returns c =
    let l = c.args.out.now in
    let b = c.args.book.now in
    let x = decimal (cards b).count in
    let y = decimal (withdrawn b).count in
    let p = cards_short (goal.at.returns c).After-withdrawn-withdrawn in
    let q = withdrawn_short (goal.at.returns c).After-withdrawn-withdrawn in
    let e = c.put_text-a.ensures in
    let f = c.put_text-c.ensures.0 in
    let g = c.put_text.ensures.0 in
    let z = e.1 in record {
      made = (
        made_more l _ _ 0 c.put_number-d.result c.put_text.result (cards_word ++ x ++ withdrawn_word ++ y) (10 ∷ [])
            (made_more l _ _ 0 c.put_text-c.result c.put_number-d.result (cards_word ++ x ++ withdrawn_word) y
            (made_more l _ _ 0 c.put_number-b.result c.put_text-c.result (cards_word ++ x) withdrawn_word
            (made_more l _ _ 0 c.put_text-a.result c.put_number-b.result cards_word x e.0 (first_number (goal.at.returns c).After-put_number-b) (omega (arith, z)))
            f (omega (arith, z, length-append cards_word x)))
            (second_number (goal.at.returns c).After-put_number-d) (omega (arith, z, length-append cards_word x, length-append (cards_word ++ x) withdrawn_word)))
            g (omega (arith, z, length-append cards_word x, length-append (cards_word ++ x) withdrawn_word, length-append (cards_word ++ x ++ withdrawn_word) y)),
        omega (arith, g.place, (second_number (goal.at.returns c).After-put_number-d).place, f.place, (first_number (goal.at.returns c).After-put_number-b).place, e.0.place),
      );
      out_len = z;
    }
