-- `read_all` reads to the end of the input: before each read the session is ready for it.
use lib.ListN.{length}
use Rattle.console.specs.Session.{Ready}
use Rattle.console.proofs.input.read_all.Given as goal

abbrev pub invariant-loop : goal.invariant-loop
invariant-loop g l = Ready l.s l.line l.out l.v l.s1 l.s3 (length l.chunk)
