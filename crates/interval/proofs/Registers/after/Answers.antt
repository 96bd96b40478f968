-- `after` meets its contract.
use Rattle.rules.proofs.Bounds.{rms_most, small_fits, read_small}
use Rattle.interval.specs.Close.{registers_after}
use Rattle.rules.specs.Source.{vrms_of}
use Rattle.std.proofs.Common.{◌≡◌, ◌≤◌, min, arith}
use Rattle.interval.proofs.Registers.after.Goals as goal
use Rattle.interval.proofs.Registers.after.Goals.{After-vrms-volts}

-- VRMS is never more than it may be
volts_most : (c : After-vrms-volts) → c.vrms-volts.result ≤ 8388607
unfolding vrms_of
volts_most c = rw c.vrms-volts.ensures (rms_most _ _ _)

capped_is : (c : After-vrms-volts) → min c.vrms-volts.result 8388607 ≡ c.vrms-volts.result
capped_is c = omega (arith, volts_most c)

pub overflow_cast-v : goal.overflow_cast-v
overflow_cast-v c = small_fits (volts_most c)

pub returns : goal.returns
unfolding registers_after
returns c =
    let v = (goal.at.returns c).After-vrms-volts in
    rw (c.follow-e.ensures, c.seven_of-seven.ensures, c.after-a.ensures, c.after-b.ensures, read_small c.vrms-volts.result (volts_most v), capped_is v, c.vrms-volts.ensures)
