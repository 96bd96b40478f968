-- `sound` meets its contract.
use Rattle.meter.specs.Blocks.{sound_of}
use Rattle.meter.proofs.Meter.sound.Goals as goal

pub returns : goal.returns
unfolding sound_of
returns c =
    rw (c.phase_in_range-b.ensures, c.phase_in_range-a.ensures, c.of_at_most-fits.ensures)
