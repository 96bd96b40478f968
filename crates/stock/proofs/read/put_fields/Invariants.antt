-- `stock::read::put_fields` meets its contract: the loop puts one field after another.
use mathlib.Core.Path.{◌≡◌}
use mathlib.Core.List.{◌++◌}
use lib.ListN.{take, drop}
use Rattle.stock.proofs.read.put_fields.Given as goal

abbrev pub invariant-loop-k : goal.invariant-loop-k
invariant-loop-k l = l.to ≡ take l.k l.fields ++ drop l.k l.initial.to
