-- `digits` tells what a row of digits is worth. The digits passed are worth `worth`, and with the rest behind them what the whole is worth.
use Prim.Native.Nat.{◌^◌}
use mathlib.Core.Path.{◌≡◌}
use lib.ListN.{drop}
use Rattle.console.specs.Numbers.{worth_behind, up_to, digits_of}
use Rattle.console.proofs.numerals.digits.Given as goal

abbrev pub invariant-loop-c : goal.invariant-loop-c
invariant-loop-c l = up_to (2 ^ 63) (worth_behind l.base l.worth (drop l.c-index l.text)) ≡ digits_of l.base l.text
