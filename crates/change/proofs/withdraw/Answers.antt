-- `change::withdraw` meets its contract.
use mathlib.Core.Path.{◌≡◌, sym, ◌∙◌}
use mathlib.Core.Bool.{true}
use native.Mathlib.Omega.{arith}
use Rattle.serial.specs.Serials.{is_serial}
use Rattle.change.specs.Change.{withdraw_answer, after_withdraw, buffer_after}
use Rattle.change.proofs.Answers.{Holds, holds, ready_serial}
use Rattle.change.proofs.withdraw.Goals as goal
use Rattle.change.proofs.withdraw.Goals.{Else-not-book_in, Else-not-is_serial}

pub returns-then-not-is_serial : goal.returns-then-not-is_serial
unfolding withdraw_answer after_withdraw buffer_after
returns-then-not-is_serial c = let no = sym c.is_serial.ensures ∙ c.if-not-is_serial.true in (simp no, simp no)

-- what each test that was passed says
text : (c : Else-not-is_serial) → is_serial c.args.text.now ≡ true
text c = sym c.is_serial.ensures ∙ c.if-not-is_serial.false

book : (c : Else-not-book_in) → Holds c.args.buffer.now c.args.used
book c = holds _ _ (sym c.book_in.ensures ∙ c.if-not-book_in.false)

pub returns-then-not-book_in : goal.returns-then-not-book_in
unfolding withdraw_answer after_withdraw buffer_after
returns-then-not-book_in c =
    let yes = text (goal.at.returns-then-not-book_in c).Else-not-is_serial in
    let no = sym c.book_in.ensures ∙ c.if-not-book_in.true in
    (simp (yes, no), simp (yes, no))

pub slice_bounds-withdrawn-end : goal.slice_bounds-withdrawn-end
slice_bounds-withdrawn-end c = omega (arith, (book (goal.at.slice_bounds-withdrawn-end c).Else-not-book_in).within)

pub slice_bounds-withdrawn-end-2 : goal.slice_bounds-withdrawn-end-2
slice_bounds-withdrawn-end-2 c = omega (arith, (book (goal.at.slice_bounds-withdrawn-end-2 c).Else-not-book_in).long)

pub enter-requires : goal.enter-requires
enter-requires c =
    rw (c.withdrawn-s.ensures.0, c.bytes-x.ensures, c.of.ensures)
    (ready_serial _ _ _ (book (goal.at.enter-requires c).Else-not-book_in) (text (goal.at.enter-requires c).Else-not-is_serial))

pub returns : goal.returns
unfolding withdraw_answer after_withdraw buffer_after
returns c =
    let r = rw (c.withdrawn-s.ensures.0, c.bytes-x.ensures, c.of.ensures) at c.enter.ensures in
    let yes = text (goal.at.returns c).Else-not-is_serial in
    (simp (yes, (book (goal.at.returns c).Else-not-book_in).test) r.0, simp (yes, (book (goal.at.returns c).Else-not-book_in).test) r.1)
