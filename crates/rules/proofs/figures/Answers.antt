-- `figures` meets its contract.
use borrow.Author.Rules.{sfits_of}
use native.Mathlib.Omega.{arith}
use mathlib.Core.Path.{sym, ◌∙◌}
use mir.Syntax.{w32}
use mir.Val.{SFits}
use mir.Facts.{to_z-of_z}
use Rattle.rules.specs.Source.{is_squelched, current_root, irms_of, watt_of, ipeak_of, figures_of}
use Rattle.rules.proofs.Bounds.{rms_most}
use Rattle.rules.proofs.figures.Goals as goal

pub lay-requires : goal.lay-requires
unfolding ipeak_of
lay-requires c =
    let k = c.before.before.before in
    let v = k.before.before in (rw v.cap-volts.ensures (omega arith), omega arith, rw k.ipeak-peak.ensures (omega arith))

pub returns-then-below_squelch : goal.returns-then-below_squelch
unfolding figures_of irms_of watt_of is_squelched
returns-then-below_squelch c =
    let s = c.before.before in
    let k = s.before.before in
    let r = k.before in
    let v = r.before in
    let h = sym s.below_squelch.ensures ∙ c.if-below_squelch.true in
    rw (c.lay.ensures, v.cap-volts.ensures, k.ipeak-peak.ensures, rw r.current_root-root.ensures at h)

pub lay-requires-2 : goal.lay-requires-2
unfolding ipeak_of current_root
lay-requires-2 c =
    let k = c.before.before.before in
    let r = k.before in
    let v = r.before in (rw v.cap-volts.ensures (omega arith), rw r.current_root-root.ensures (rms_most _ _ _), rw k.ipeak-peak.ensures (omega arith))

pub returns : goal.returns
unfolding figures_of irms_of watt_of is_squelched
returns c =
    let s = c.before.before in
    let p = s.before in
    let k = p.before in
    let r = k.before in
    let v = r.before in
    let h = sym s.below_squelch.ensures ∙ c.if-below_squelch.false in
    let hp : SFits w32 p.active_power-p.result = sfits_of p.active_power-p.type_inv in
    rw (c.lay-2.ensures, to_z-of_z hp, v.cap-volts.ensures, k.ipeak-peak.ensures, rw r.current_root-root.ensures at h, r.current_root-root.ensures, p.active_power-p.ensures)
