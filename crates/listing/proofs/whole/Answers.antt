-- `whole` meets its contract: the first line and the lines of the entries, or the one line for a bad book.
use mathlib.Core.Path.{sym, ◌∙◌}
use native.Mathlib.Omega.{arith}
use Rattle.listing.specs.Lines.{first_line, entries_text, refused_line, listing}
use Rattle.listing.proofs.Lines.{made_more, made_length}
use Rattle.listing.proofs.whole.Goals as goal

pub put_entries-requires : goal.put_entries-requires
put_entries-requires c =
    let e = c.put_first-at.ensures in
    record {
      formed = sym c.is_book.ensures ∙ c.if-is_book.true;
      wide = made_length _ _ _ _ _ e.made.0 (omega (arith, e.made.1, e.out_len)) ∙ e.out_len;
      first = e.made.1;
    }

pub returns-then-is_book : goal.returns-then-is_book
unfolding listing
returns-then-is_book c =
    let b = c.args.book.now in
    let m = made_more c.args.out.now _ _ 0 c.put_first-at.result c.put_entries.result (first_line b) (entries_text b) c.put_first-at.ensures.made.0 c.put_entries.ensures.0
    (omega (arith, c.put_first-at.ensures.out_len, c.put_entries.ensures.1, c.put_entries.ensures.0.place, c.put_first-at.ensures.made.0.place)) in
    rw (sym c.is_book.ensures ∙ c.if-is_book.true) (record { value = (omega (arith, m.place), m.line); upper_bound = c.put_entries.ensures.1 })

pub returns : goal.returns
unfolding listing refused_line
returns c =
    let m = c.put_text.ensures.0 in
    rw (sym c.is_book.ensures ∙ c.if-is_book.false) (record { value = (omega (arith, m.place), m.line); upper_bound = omega (arith, m.place) })
