-- `block` meets its contract.
use mathlib.Core.Path.{◌≡◌, sym, ◌∙◌}
use mathlib.Core.Bool.{true, false, ◌&&◌}
use lib.Dec.{leb}
use lib.ListN.{length}
use Rattle.sample.specs.Sums.{same_length}
use Rattle.sample.proofs.Tests.{both_of}
use Rattle.alarm.specs.Alarms.{both}
use Rattle.meter.proofs.Ways.{block_5, block_6, block_pass}
use Rattle.meter.proofs.Meter.block.Goals as goal
use Rattle.meter.proofs.Meter.block.Goals.{Then-not-fits, Else-not-fits}

-- the slices are of one length, and not too long
fits : (c : Else-not-fits) → let a = c.args in (same_length a.v.now a.s1.now a.s3.now && leb (length a.v.now) 4096) ≡ true
unfolding same_length
fits c = c.if-not-fits.false

unfit : (c : Then-not-fits) → let a = c.args in (same_length a.v.now a.s1.now a.s3.now && leb (length a.v.now) 4096) ≡ false
unfolding same_length
unfit c = c.if-not-fits.true

pub pass-requires : goal.pass-requires
pass-requires c = (both_of _ _ (fits (goal.at.pass-requires c).Else-not-fits)).0

pub returns : goal.returns
returns c =
    let a = c.args in
    let p = block_pass a.self (both a.a a.volts.now) a.v.now a.s1.now a.s3.now (fits (goal.at.returns c).Else-not-fits) (sym c.all_three.ensures ∙ c.if-not-all_three.false) in
    record { value = c.pass.ensures.value ∙ p.0; volts_after = c.pass.ensures.volts_after ∙ p.1 }

pub returns-then-not-all_three : goal.returns-then-not-all_three
returns-then-not-all_three c =
    let a = c.args in
    let r = block_6 a.self (both a.a a.volts.now) a.v.now a.s1.now a.s3.now (fits (goal.at.returns-then-not-all_three c).Else-not-fits) (sym c.all_three.ensures ∙ c.if-not-all_three.true) in
    record { value = r.0; volts_after = r.1 }

pub returns-then-not-fits : goal.returns-then-not-fits
returns-then-not-fits c =
    let a = c.args in
    let r = block_5 a.self (both a.a a.volts.now) a.v.now a.s1.now a.s3.now (unfit (goal.at.returns-then-not-fits c).Then-not-fits) in
    record { value = r.0; volts_after = r.1 }
