-- `number::lessen` meets its contract: a size less another that is not smaller is 0.
use mir.Syntax.{w64}
use mir.Facts.{to_z-of_z}
use Rattle.number.specs.Sign.{lessened}
use Rattle.number.proofs.Fits.{answer}
use Rattle.number.proofs.lessen.Goals as goal

pub returns : goal.returns
unfolding lessened
returns c = answer w64 c.with_sign.type_inv (rw (to_z-of_z c.ranges.x, c.saturating_sub.ensures, c.size.ensures, to_z-of_z c.ranges.x) at c.with_sign.ensures)
