-- `sound` meets its contract.
use Rattle.halfcycle.specs.Passing.{watch_sound}
use Rattle.halfcycle.proofs.sound.Goals as goal

pub returns : goal.returns
unfolding watch_sound
returns c = rw c.is_sum-kept.ensures
