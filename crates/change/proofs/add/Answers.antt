-- `change::add` meets its contract.
use mathlib.Core.Path.{◌≡◌, sym, ◌∙◌}
use mathlib.Core.Bool.{true}
use native.Mathlib.Omega.{arith}
use lib.ListN.{length}
use Rattle.serial.specs.Serials.{is_serial}
use Rattle.card.specs.Fields.{values_fit}
use Rattle.change.specs.Change.{add_answer, added, buffer_after}
use Rattle.change.proofs.Answers.{Holds, holds, ready_card}
use borrow.Author.Rules.{rules}
use Rattle.change.proofs.add.Goals as goal
use Rattle.change.proofs.add.Goals.{Else-not-book_in, Else-not-is_serial, Else-not-values_fit, Start}

pub returns-then-not-is_serial : goal.returns-then-not-is_serial
unfolding add_answer added buffer_after
returns-then-not-is_serial c = let no = sym c.is_serial.ensures ∙ c.if-not-is_serial.true in (simp no, simp no)

eight : (c : Start) → length c.args.values ≡ 8
eight c = search rules

-- what each test that was passed says
text : (c : Else-not-is_serial) → is_serial c.args.text.now ≡ true
text c = sym c.is_serial.ensures ∙ c.if-not-is_serial.false

fit : (c : Else-not-values_fit) → values_fit c.args.values ≡ true
fit c = sym c.values_fit.ensures ∙ c.if-not-values_fit.false

book : (c : Else-not-book_in) → Holds c.args.buffer.now c.args.used
book c = holds _ _ (sym c.book_in.ensures ∙ c.if-not-book_in.false)

pub returns-then-not-values_fit : goal.returns-then-not-values_fit
unfolding add_answer added buffer_after
returns-then-not-values_fit c =
    let yes = text (goal.at.returns-then-not-values_fit c).Else-not-is_serial in
    let no = sym c.values_fit.ensures ∙ c.if-not-values_fit.true in
    (simp (yes, no), simp (yes, no))

pub returns-then-not-book_in : goal.returns-then-not-book_in
unfolding add_answer added buffer_after
returns-then-not-book_in c =
    let yes = text (goal.at.returns-then-not-book_in c).Else-not-is_serial in
    let no = sym c.book_in.ensures ∙ c.if-not-book_in.true in
    (simp (yes, fit (goal.at.returns-then-not-book_in c).Else-not-values_fit, no), simp (yes, fit (goal.at.returns-then-not-book_in c).Else-not-values_fit, no))

pub slice_bounds-cards-end : goal.slice_bounds-cards-end
slice_bounds-cards-end c = omega (arith, (book (goal.at.slice_bounds-cards-end c).Else-not-book_in).within)

pub slice_bounds-cards-end-2 : goal.slice_bounds-cards-end-2
slice_bounds-cards-end-2 c = omega (arith, (book (goal.at.slice_bounds-cards-end-2 c).Else-not-book_in).long)

pub enter-requires : goal.enter-requires
enter-requires c =
    rw (c.cards-s.ensures.0, c.card_bytes-x.ensures, c.of.ensures)
    (ready_card _ _ _ (book (goal.at.enter-requires c).Else-not-book_in) (text (goal.at.enter-requires c).Else-not-is_serial) c.args.values (eight (goal.at.enter-requires c).Start))

pub returns : goal.returns
unfolding add_answer added buffer_after
returns c =
    let r = rw (c.cards-s.ensures.0, c.card_bytes-x.ensures, c.of.ensures) at c.enter.ensures in
    let yes = text (goal.at.returns c).Else-not-is_serial in
    (simp (yes, fit (goal.at.returns c).Else-not-values_fit, (book (goal.at.returns c).Else-not-book_in).test) r.0, simp (yes, fit (goal.at.returns c).Else-not-values_fit, (book (goal.at.returns c).Else-not-book_in).test) r.1)
