-- `has_card` meets its contract.
use Rattle.meter.specs.Blocks.{carded}
use Rattle.meter.proofs.Meter.has_card.Goals as goal

pub returns-then-sound : goal.returns-then-sound
unfolding carded
returns-then-sound c = rw (← c.sound.ensures, c.if-sound.true)

pub returns : goal.returns
unfolding carded
returns c = rw (← c.sound.ensures, c.if-sound.false)
