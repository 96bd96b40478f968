-- `change::insert` meets its contract: the three writes make the new book.
use native.Mathlib.Omega.{arith}
use Prim.Native.Nat.{◌+◌}
use Rattle.change.proofs.Entry.{count_low_first, written}
use Rattle.change.proofs.insert.Goals as goal

pub returns : goal.returns
returns c =
    let a = c.args in
    let h = c.requires in
    rw (
      c.put_at-2.ensures,
      c.put_at.ensures,
      c.move_up.ensures,
      c.to_le_bytes-count.ensures,
      count_low_first (a.s.count + 1) (omega (arith, h.few)),
    )
    (written a.b.now a.used a.s a.x.now h.counted h.inside h.room)
