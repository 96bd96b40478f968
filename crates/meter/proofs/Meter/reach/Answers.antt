-- `reach` meets its contract.
use native.Mathlib.Omega.{arith}
use Rattle.meter.proofs.Sound.{sound_of_lem}
use Rattle.meter.proofs.Meter.reach.Goals as goal

pub overflow_sub-room : goal.overflow_sub-room
overflow_sub-room c = omega (arith, (sound_of_lem c.args.self c.requires.0).taken_most)
