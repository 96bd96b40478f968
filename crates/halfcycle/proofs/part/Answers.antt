-- `part` meets its contract.
use Prim.Native.Nat.{ℕ, ◌+◌, ◌<◌, min}
use native.Mathlib.Omega.{arith}
use mathlib.Core.Path.{◌≡◌, sym, ap, ap₂, ◌∙◌}
use lib.ListN.{length}
use Rattle.halfcycle.specs.declared.Track.{Track}
use Rattle.halfcycle.specs.declared.Levels.{Levels}
use Rattle.alarm.specs.Alarms.{both}
use Rattle.halfcycle.specs.Passing.{seen_all}
use Rattle.halfcycle.specs.Inside.{swing, swept_all, levels_of, track_of}
use Rattle.halfcycle.proofs.Windows.{kept_most}
use Rattle.halfcycle.proofs.Parts.{seen_none, good_all, sweep_from, settled, runs_all}
use Rattle.halfcycle.proofs.part.Goals as goal
use Rattle.halfcycle.proofs.part.Goals.{After-slide-t}

pub returns-then-v-eq0 : goal.returns-then-v-eq0
returns-then-v-eq0 c = sym (seen_none c.args.c c.args.v.now (both c.args.a c.args.volts.now) c.if-v-eq0.true)

pub slide-t-requires : goal.slide-t-requires
unfolding track_of
slide-t-requires c = rw c.track_of-p.ensures c.requires.0.kept

-- what the loop leaves is what the voltages come to one after another
taken : (c : After-slide-t) →
    let a = c.args in
    seen_all a.c (both a.a a.volts.now) a.v.now ≡
    settled a.a.limits (levels_of a.a.limits a.full) a.a.alarms (min a.a.limits.w (a.a.seen + length a.v.now)) (swing c.slide-t.result c.slide-t.new.volts)
taken c =
    let a = c.args in
    let n = min a.a.limits.w (a.a.seen + length a.v.now) in
    let some : 0 < length a.v.now = omega (arith, c.if-v-eq0.false) in
    let made = settled a.a.limits (levels_of a.a.limits a.full) a.a.alarms n in
    runs_all a.c a.full a.v.now a.a a.volts.now some c.requires.0 c.requires.1
    ∙ sym (ap made c.slide-t.ensures
    ∙ ap (λ (p : Track). made (swept_all p (swing (sweep_from a.a 18446744073709551615 0) a.volts.now) a.v.now)) c.track_of-p.ensures)

pub overflow_cast-result : goal.overflow_cast-result
overflow_cast-result c =
    let good = good_all c.args.c c.args.v.now c.args.a c.args.volts.now c.requires.0 in
    record { fits = omega (arith, (kept_most (rw (taken (goal.at.overflow_cast-result c).After-slide-t) at good.kept)).0) }

pub returns : goal.returns
returns c =
    let a = c.args in
    ap₂ (λ (z : Levels) (k : ℕ). settled a.a.limits z a.a.alarms k (swing c.slide-t.result c.slide-t.new.volts)) c.levels_of-l.ensures c.seen_after-seen.ensures
    ∙ sym (taken (goal.at.returns c).After-slide-t)
