-- `multipliers_in` meets its contract.
use Rattle.source.proofs.Blends.{code_reads, code_fits}
use mir.Facts.{to_z-of_z}
use Prim.Native.Nat.{◌/◌, ◌%◌}
use native.Mathlib.Omega.{arith}
use Rattle.source.specs.Sources.{multiplier, multipliers_in}
use Rattle.source.proofs.multipliers_in.Goals as goal

pub overflow_sub-result : goal.overflow_sub-result
overflow_sub-result c = rw (code_reads (c.args.bits % 4) (omega arith)) (code_fits (c.args.bits % 4) (omega arith))

pub overflow_sub-result-2 : goal.overflow_sub-result-2
overflow_sub-result-2 c = rw (code_reads (c.args.bits / 4 % 4) (omega arith)) (code_fits (c.args.bits / 4 % 4) (omega arith))

pub returns : goal.returns
unfolding multipliers_in multiplier
returns c = rw (code_reads (c.args.bits % 4) (omega arith), code_reads (c.args.bits / 4 % 4) (omega arith), to_z-of_z (code_fits (c.args.bits % 4) (omega arith)), to_z-of_z (code_fits (c.args.bits / 4 % 4) (omega arith)))
