-- `put_entries` meets its contract: a turn goes by `Walking` (`Walking.antt`), that is, by what stands in the buffer so far, and where the reader is.
use mathlib.Core.Path.{sym, ap, ◌∙◌}
use mathlib.Core.List.{List}
use Prim.Native.Nat.{ℕ}
use denote.Bor.{Bor}
use Rattle.reader.specs.declared.Reader.{Reader}
use Rattle.listing.proofs.Walking.{begins, fits, goes_on, ends}
use Rattle.listing.proofs.put_entries.Goals as goal

pub loop-entry-init : goal.loop-entry-init
loop-entry-init c =
    let e = c.into_iter-entry-iterator.ensures.into_iter_gives in
    let n = c.new-entry-items.ensures in (
      ap (λ (r : Reader). r.book.now) e ∙ ap (λ (b : Bor (List ℕ)). b.now) n.0,
      begins _ _ _ _ (ap (λ (r : Reader). r.place) e ∙ n.1),
    )

pub put_entry-at-requires : goal.put_entry-at-requires
put_entry-at-requires c =
    let i = c.loop-entry.invariant in
    let q = rw i.0 at c.in-Some.ensures.steps in
    fits c.args.book.now c.requires.formed _ _ _ _ _ c.requires.first i.1 c.in-Some.entry q.1

pub loop-entry-preserved : goal.loop-entry-preserved
loop-entry-preserved c =
    let i = c.loop-entry.invariant in
    let q = rw i.0 at c.in-Some.ensures.steps in
    let p = c.put_entry-at.ensures in (
      ap (λ (b : Bor (List ℕ)). b.now) c.in-Some.ensures.steps.0 ∙ i.0,
      goes_on c.args.book.now c.requires.formed _ _ _ _ _ c.requires.first i.1 _ _ _ c.in-Some.entry q.1 q.2 p.0 p.1 c.requires.wide,
    )

pub returns : goal.returns
returns c =
    let i = c.loop-entry.invariant in
    let q = rw i.0 at c.next.ensures.steps in
    ends c.args.book.now c.requires.formed _ _ _ _ _ c.requires.first i.1 (sym c.in-None.is ∙ q.1)
