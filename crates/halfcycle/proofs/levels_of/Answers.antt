-- `levels_of` meets its contract.
use Rattle.halfcycle.specs.Inside.{levels_of}
use Rattle.halfcycle.proofs.levels_of.Goals as goal
use Rattle.halfcycle.proofs.levels_of.Goals.{then-full, else-full}

pub returns-then-full-t : goal.returns-then-full-t
unfolding levels_of
returns-then-full-t c =
    elim c.if-full.branch [
      | then-full w ↦ rw (w.low-is, w.level_of-low.ensures, c.level_of-high.ensures, c.if-full-t.true, w.if-full.true)
      | else-full w ↦ rw (w.low-is, c.level_of-high.ensures, c.if-full-t.true, w.if-full.false)
    ]

pub returns-else-full-t : goal.returns-else-full-t
unfolding levels_of
returns-else-full-t c =
    elim c.if-full.branch [
      | then-full w ↦ rw (w.low-is, w.level_of-low.ensures, c.if-full-t.false, w.if-full.true)
      | else-full w ↦ rw (w.low-is, c.if-full-t.false, w.if-full.false)
    ]
