-- `add` meets its contract.
use Rattle.summing.specs.Inside.{joined_to}
use Rattle.sample.proofs.Rooms.{square24}
use Rattle.number.specs.Sign.{square_of}
use mir.Facts.{to_z-of_z}
use mathlib.Core.Path.{◌≡◌, ◌∙◌}
use native.Mathlib.Omega.{arith}
use Rattle.summing.proofs.add.Goals as goal
use Rattle.summing.proofs.add.Goals.{After-square}

squared : (c : After-square) → c.square.result ≡ square_of c.args.v
squared c = c.square.ensures ∙ rw (to_z-of_z c.ranges.v)

pub overflow_add-result : goal.overflow_add-result
overflow_add-result c = record { fits = omega (arith, squared (goal.at.overflow_add-result c).After-square, square24 c.args.v c.requires.1, c.requires.0.vv) }

pub returns : goal.returns
unfolding joined_to
returns c = rw (squared (goal.at.returns c).After-square, c.join-a.ensures, c.join-b.ensures, to_z-of_z c.ranges.v, to_z-of_z c.ranges.ia, to_z-of_z c.ranges.ib)
