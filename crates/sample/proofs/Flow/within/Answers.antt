-- `within` meets its contract.
use Rattle.sample.specs.Sums.{flow_within}
use mir.Facts.{to_z-of_z}
use mir.Val.{SFits}
use mir.Syntax.{w64}
use borrow.Author.Rules.{rules}
use Rattle.sample.proofs.Flow.within.Goals as goal

pub returns : goal.returns
unfolding flow_within
returns c = let h : SFits w64 c.args.self.vi = search rules in rw (c.size-z.ensures, to_z-of_z h)
