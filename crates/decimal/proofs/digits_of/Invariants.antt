-- `decimal::digits_of` meets its contract.
use Rattle.decimal.proofs.Places.{Writing}
use Rattle.decimal.proofs.digits_of.Given as goal

-- `decimal::digits_of` meets its contract.
abbrev pub invariant-loop-rest : goal.invariant-loop-rest
invariant-loop-rest l = Writing l.n l.bytes l.i l.rest

abbrev pub decreases-loop-rest : goal.decreases-loop-rest
decreases-loop-rest l = l.rest
