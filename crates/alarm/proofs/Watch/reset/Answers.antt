-- `reset` meets its contract.
use mathlib.Core.Path.{◌≡◌, sym, ◌∙◌}
use mir.Facts.{to_z-of_z}
use Rattle.alarm.specs.Masks.{only_alarms}
use Rattle.alarm.specs.Alarms.{cleared_of, clearing}
use Rattle.alarm.proofs.Watch.reset.Goals as goal
use Rattle.alarm.proofs.Watch.reset.Goals.{After-only_alarms}

tested : (c : After-only_alarms) → c.only_alarms.result ≡ only_alarms c.args.mask
tested c = rw (to_z-of_z c.ranges.mask) at c.only_alarms.ensures

pub returns-then-not-only_alarms : goal.returns-then-not-only_alarms
unfolding clearing
returns-then-not-only_alarms c = simp (sym (tested (goal.at.returns-then-not-only_alarms c).After-only_alarms) ∙ c.if-not-only_alarms.true)

pub returns : goal.returns
unfolding clearing cleared_of
returns c =
    let named = rw (to_z-of_z c.ranges.mask) at c.named_by-named.ensures in
    simp (named, sym (tested (goal.at.returns c).After-only_alarms) ∙ c.if-not-only_alarms.false)
