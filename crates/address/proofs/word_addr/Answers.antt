-- `word_addr` meets its contract.
use mir.Facts.{to_z-of_z}
use Rattle.address.proofs.Places.{word_at}
use Rattle.address.proofs.word_addr.Goals as goal

pub returns : goal.returns
returns c = rw c.unwrap_or.ensures (word_at c.args.x _ (rw (to_z-of_z c.ranges.x) at c.try_from.ensures))
