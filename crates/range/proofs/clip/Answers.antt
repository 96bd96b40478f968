-- `range::clip` meets its contract: what `held_within` leaves within the ends fits an i32.
use borrow.Author.Rules.{sfits_of}
use mathlib.Core.Path.{◌≡◌}
use native.Mathlib.Omega.{arith}
use mir.Facts.{to_z-of_z}
use mir.Syntax.{w32, w64}
use mir.Val.{SFits}
use Rattle.range.specs.Range.{clipped}
use Rattle.range.proofs.Ranges.{clipped_mag}
use Rattle.range.proofs.clip.Goals as goal
use Rattle.range.proofs.clip.Goals.{After-held_within}

held : (c : After-held_within) → c.held_within.result ≡ clipped c.args.x
unfolding clipped
held c = rw (to_z-of_z c.ranges.x) at c.held_within.ensures

narrow : (c : After-held_within) → SFits w32 c.held_within.result
narrow c = rw (held c) (record { sfits = omega (arith, clipped_mag c.args.x) })

pub overflow_cast-result : goal.overflow_cast-result
overflow_cast-result c = rw (to_z-of_z (sfits_of {w = w64} c.held_within.type_inv)) (narrow c)

pub returns : goal.returns
returns c = rw (to_z-of_z (sfits_of {w = w64} c.held_within.type_inv), to_z-of_z (narrow c)) (held c)
