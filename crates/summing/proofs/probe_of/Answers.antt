-- `probe_of` meets its contract.
use Rattle.summing.specs.Inside.{probe_of}
use Rattle.source.specs.Sources.{multipliers_of}
use mir.Facts.{to_z-of_z}
use mir.Val.{SFits}
use mir.Syntax.{w32}
use lib.ListN.{get_or}
use lib.IntN.{pos}
use native.Mathlib.Omega.{arith}
use borrow.Author.Rules.{rules}
use Rattle.summing.proofs.probe_of.Goals as goal

pub overflow_cast-result : goal.overflow_cast-result
overflow_cast-result c = let h : SFits w32 (get_or c.args.c.fields 4 (pos 0)) = search rules in rw (to_z-of_z h) (c.requires.low, omega (arith, c.requires.high))

pub returns : goal.returns
unfolding probe_of multipliers_of
returns c = let f = c.args.c.fields in let h0 : SFits w32 (get_or f 0 (pos 0)) = search rules in let h1 : SFits w32 (get_or f 1 (pos 0)) = search rules in let h2 : SFits w32 (get_or f 2 (pos 0)) = search rules in let h3 : SFits w32 (get_or f 3 (pos 0)) = search rules in let h4 : SFits w32 (get_or f 4 (pos 0)) = search rules in rw (to_z-of_z h0, to_z-of_z h1, to_z-of_z h2, to_z-of_z h3, to_z-of_z h4, c.multipliers_in-a.ensures, c.multipliers_in-b.ensures)
