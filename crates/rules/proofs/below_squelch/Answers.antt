-- `below_squelch` meets its contract.
use mathlib.Core.Path.{◌≡◌}
use lib.IntN.{pos, nat_abs}
use lib.ListN.{get_or}
use mir.Syntax.{w32}
use mir.Val.{SFits}
use mir.Facts.{to_z-of_z}
use Rattle.number.proofs.Fits.{ranges, widen}
use Rattle.rules.specs.Rules.{below_squelch}
use borrow.Author.Rules.{rules}
use Rattle.rules.proofs.below_squelch.Goals as goal
use Rattle.rules.proofs.below_squelch.Goals.{After-size, After-size-arg-1}

-- SQUELCH, as it stands in the card
fits : (c : After-size-arg-1) → SFits w32 (get_or c.args.c.fields 6 (pos 0))
fits c = search rules

pub overflow_cast-x : goal.overflow_cast-x
overflow_cast-x c = rw (to_z-of_z (fits c)) (search (ranges, fits c))

level : (c : After-size) → c.size.result ≡ nat_abs (get_or c.args.c.fields 6 (pos 0))
level c =
    let h = fits c.before in
    rw (to_z-of_z h, to_z-of_z (widen h)) at c.size.ensures

pub returns : goal.returns
unfolding below_squelch
returns c = rw (level c)
