-- `turn` meets its contract.
use native.Mathlib.Omega.{arith}
use borrow.Author.Tests.{eq-eqb, ne_eqb}
use Rattle.meter.specs.Inside.{turn_of}
use Rattle.meter.proofs.Sound.{sound_of_lem}
use Rattle.meter.proofs.Meter.turn.Goals as goal

pub overflow_sub-result : goal.overflow_sub-result
overflow_sub-result c = omega (arith, (sound_of_lem c.args.self c.requires).taken_most)

pub returns-then-self-gt0 : goal.returns-then-self-gt0
unfolding turn_of
returns-then-self-gt0 c = rw (ne_eqb c.args.self.taken 0 (omega (arith, c.if-self-gt0.true)))

pub returns : goal.returns
unfolding turn_of
returns c = rw (eq-eqb c.args.self.taken 0 (omega (arith, c.if-self-gt0.false)))
