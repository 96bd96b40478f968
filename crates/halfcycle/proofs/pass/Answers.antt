-- `pass` meets its contract.
use native.Mathlib.Omega.{arith}
use mathlib.Core.Path.{◌≡◌, sym, ap, subst, ◌∙◌}
use mathlib.Core.List.{List}
use lib.IntN.{ℤ}
use lib.ListN.{length, drop}
use Rattle.alarm.specs.Alarms.{Watching, both}
use Rattle.halfcycle.specs.Passing.{seen_all, seen_by}
use Rattle.halfcycle.specs.Inside.{Good}
use Rattle.halfcycle.proofs.Parts.{good_all, lent_rest}
use Rattle.halfcycle.proofs.Tests.{good_of, pass_yes, pass_no, pass_one}
use borrow.Author.Rules.{rules}
use Rattle.halfcycle.proofs.pass.Goals as goal
use Rattle.halfcycle.proofs.pass.Goals.{Then-sound}

-- an array that is lent as a slice has its length
good : (c : Then-sound) → let a = c.args in Good a.a a.volts.now
good c =
    let a = c.args in
    let long : length a.volts.now ≡ 512 = search rules in
    good_of a.a a.volts.now long (sym c.sound.ensures ∙ c.if-sound.true)

pub see-b-requires : goal.see-b-requires
see-b-requires c = good (goal.at.see-b-requires c).Then-sound

pub offset_bounds-v-turn : goal.offset_bounds-v-turn
offset_bounds-v-turn c =
    record { fits = omega (arith, c.well_formed, c.if-turn-v.true) }

pub see-watch-requires : goal.see-watch-requires
see-watch-requires c =
    let a = c.args in
    subst (λ (q : Watching). Good q.watch q.volts) (sym c.see-b.ensures)
    (good_all a.c _ a.a a.volts.now (good (goal.at.see-watch-requires c).Then-sound))

pub returns-then-turn-v : goal.returns-then-turn-v
unfolding seen_by
returns-then-turn-v c =
    let a = c.args in
    let v = a.v.now in
    let q = both a.a a.volts.now in
    let e = c.see-watch.ensures
    ∙ ap (λ (u : List ℤ). seen_all a.next (both c.see-b.result c.see-b.new.volts) u) (lent_rest a.turn v)
    ∙ ap (λ (z : Watching). seen_all a.next z (drop a.turn v)) c.see-b.ensures in
    let r = pass_yes a.c a.next a.turn q v (both c.see-watch.result c.see-watch.new.volts) (sym c.sound.ensures ∙ c.if-sound.true) e in
    record { value = r.0; volts_after = r.1 }

pub see-watch-requires-then-sound : goal.see-watch-requires-then-sound
see-watch-requires-then-sound c = good (goal.at.see-watch-requires-then-sound c).Then-sound

pub returns-then-sound : goal.returns-then-sound
returns-then-sound c =
    let a = c.args in
    let q = both a.a a.volts.now in
    let r = pass_yes a.c a.next a.turn q a.v.now (both c.see-watch-then-sound.result c.see-watch-then-sound.new.volts) (sym c.sound.ensures ∙ c.if-sound.true)
    (c.see-watch-then-sound.ensures ∙ pass_one a.c a.next a.turn q a.v.now c.if-turn-v.false) in
    record { value = r.0; volts_after = r.1 }

pub returns : goal.returns
returns c =
    let a = c.args in
    let r = pass_no a.c a.next a.turn (both a.a a.volts.now) a.v.now (sym c.sound.ensures ∙ c.if-sound.false) in
    record { value = r.0; volts_after = r.1 }
