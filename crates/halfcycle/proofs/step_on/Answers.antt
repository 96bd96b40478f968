-- `step_on` meets its contract.
use Prim.Native.Nat.{◌<◌}
use native.Mathlib.Omega.{arith}
use mathlib.Core.Path.{◌≡◌, ap, ap₂, ◌∙◌}
use borrow.Author.Rules.{rules}
use lib.IntN.{pos}
use lib.ListN.{get_or, set}
use mir.Syntax.{w32}
use mir.Val.{SFits}
use mir.Facts.{to_z-of_z}
use lib.Signed.{mag}
use Rattle.range.proofs.Ranges.{in_fits, in_mag}
use Rattle.sample.specs.declared.Corrected.{Corrected}
use Rattle.sample.specs.Sample.{correction, corrected}
use Rattle.sample.proofs.Corrections.{corrected_in}
use Rattle.halfcycle.specs.Inside.{swing, swept}
use Rattle.halfcycle.proofs.Windows.{squares_at, every_at, kept_most}
use Rattle.halfcycle.proofs.step_on.Goals as goal
use Rattle.halfcycle.proofs.step_on.Goals.{After-correct-x, Start}

-- the place of the oldest
placed : (c : Start) → c.args.t.at < 512
placed c = (kept_most c.requires).0

pub offset_bounds-volts-at : goal.offset_bounds-volts-at
offset_bounds-volts-at c = record { fits = omega (arith, placed (goal.at.offset_bounds-volts-at c).Start) }

pub bounds-volts-at : goal.bounds-volts-at
bounds-volts-at c = placed (goal.at.bounds-volts-at c).Start

pub offset_bounds-volts-at-2 : goal.offset_bounds-volts-at-2
offset_bounds-volts-at-2 c = record { fits = omega (arith, placed (goal.at.offset_bounds-volts-at-2 c).Start) }

pub bounds-volts-at-2 : goal.bounds-volts-at-2
bounds-volts-at-2 c = placed (goal.at.bounds-volts-at-2 c).Start

-- the raw voltage, corrected
corrected_is : (c : After-correct-x) → let a = c.args in c.correct-x.result.value ≡ corrected a.raw a.p.voffs a.p.vgain
unfolding correction
corrected_is c =
    let voffs_fits : SFits w32 c.args.p.voffs = search rules in
    let vgain_fits : SFits w32 c.args.p.vgain = search rules in
    ap (λ (r : Corrected). r.value) c.correct-x.ensures ∙ rw (to_z-of_z c.ranges.raw, to_z-of_z voffs_fits, to_z-of_z vgain_fits)

corrected_small : (c : After-correct-x) → mag c.correct-x.result.value < 8388608
corrected_small c = let a = c.args in rw (corrected_is c) (corrected_in a.raw a.p.voffs a.p.vgain)

corrected_fits : (c : After-correct-x) → SFits w32 c.correct-x.result.value
corrected_fits c = in_fits (in_mag c.correct-x.result.value (corrected_small c))

-- the oldest
old_fits : (c : Start) → SFits w32 (get_or c.args.volts.now c.args.t.at (pos 0))
old_fits c = in_fits (every_at c.args.volts.now c.args.t.at c.requires.all24)

pub moved-requires : goal.moved-requires
moved-requires c =
    let m = kept_most c.requires in (
      m.0,
      m.1,
      rw (to_z-of_z (corrected_fits (goal.at.moved-requires c).After-correct-x)) (corrected_small (goal.at.moved-requires c).After-correct-x),
      rw (to_z-of_z (old_fits (goal.at.moved-requires c).Start), c.requires.sum_is) (squares_at c.args.volts.now c.args.t.at),
    )

pub returns : goal.returns
unfolding swept
returns c =
    let a = c.args in
    let e = to_z-of_z (corrected_fits (goal.at.returns c).After-correct-x) ∙ corrected_is (goal.at.returns c).After-correct-x in
    let m = rw (to_z-of_z (old_fits (goal.at.returns c).Start), e) at c.moved.ensures in
    ap₂ swing m (ap (set a.volts.now a.t.at) e)
