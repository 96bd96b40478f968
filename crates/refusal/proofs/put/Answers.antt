-- `refusal::put` meets its contract.
use mathlib.Core.Path.{sym}
use Prim.Native.Nat.{◌+◌, ◌<◌}
use lib.ListN.{length}
use native.Mathlib.Omega.{arith}
use borrow.Author.Tests.{lt-leb}
use Rattle.serial.specs.Places.{put_within}
use Rattle.refusal.proofs.Rows.{written_all, written_none}
use Rattle.refusal.proofs.put.Goals as goal

-- `refusal::put` meets its contract.
pub returns-then-buffer-text : goal.returns-then-buffer-text
unfolding put_within
returns-then-buffer-text c =
    let a = c.args in
    let l : length a.buffer.now < 0 + length a.text.now = omega arith in
    (sym (written_none _ _ (omega arith)), simp (lt-leb _ _ l))

pub returns : goal.returns
returns c = (sym (written_all _ _ (omega arith)), c.put_at.ensures)
