-- `serial::put_at` meets its contract.
use Rattle.std.proofs.Common.{◌+◌, ◌<◌, length, sym, ◌∙◌, arith}
use borrow.Author.Tests.{lt-leb}
use Rattle.serial.specs.Places.{put_within}
use Rattle.serial.proofs.Places.{put_fits}
use Rattle.serial.proofs.put_at.Goals as goal
use Rattle.serial.proofs.put_at.Goals.{else-n-b-via-then-n-b+else-at-b, else-n-b-via-else-n-b}

pub returns-then-at-b : goal.returns-then-at-b
returns-then-at-b c =
    c.copy_in.ensures ∙ sym (put_fits _ _ _ (omega arith))

pub returns-else-n-b : goal.returns-else-n-b
unfolding put_within
returns-else-n-b c =
    let a = c.args in
    let l : length a.b.now < a.at + length a.xs.now = elim c.else-n-b.branch [ else-n-b-via-then-n-b+else-at-b w ↦ omega arith | else-n-b-via-else-n-b w ↦ omega arith ] in
    simp (lt-leb _ _ l)
