-- `ended` meets its contract.
use borrow.Author.Tests.{eq-eqb, ne_eqb}
use Rattle.meter.specs.Inside.{end_of}
use Rattle.meter.proofs.Meter.ended.Goals as goal
use Rattle.meter.proofs.Meter.ended.Goals.{then-full, else-full}

pub returns : goal.returns
unfolding end_of
returns c = elim c.if-full.branch [
  | then-full w ↦ rw (w.self-is, w.w-is, w.closed-w.ensures, eq-eqb _ _ w.if-full.true)
  | else-full w ↦ rw (w.self-is, w.w-is, ne_eqb _ _ w.if-full.false)
]
