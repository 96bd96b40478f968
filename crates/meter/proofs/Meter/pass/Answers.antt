-- `pass` meets its contract.
use Prim.Native.Nat.{ℕ}
use mathlib.Core.Path.{◌≡◌, refl, sym, ap, ap₂, ◌∙◌}
use mathlib.Core.Bool.{Bool, true, false, cond}
use mathlib.Core.List.{List}
use lib.IntN.{ℤ}
use Rattle.std.specs.Prelude.{Some, None}
use Rattle.steps.specs.Answers.{accepted}
use Rattle.card.specs.declared.Card.{Card}
use Rattle.sample.specs.Sums.{samples_in}
use Rattle.sample.proofs.Tests.{lengths_same}
use Rattle.alarm.specs.declared.Watch.{Watch}
use Rattle.alarm.specs.Alarms.{both}
use Rattle.halfcycle.specs.Passing.{seen_by, watch_sound, passed_by, pass_of, volts_after}
use Rattle.meter.specs.declared.Meter.{Meter}
use Rattle.meter.specs.Blocks.{carded}
use Rattle.meter.specs.Inside.{card_behind, turn_of}
use Rattle.meter.proofs.Sound.{sound_of_lem, carded_sound}
use Rattle.meter.proofs.Watched.{voltages_in, watched_by}
use Rattle.meter.proofs.Ways.{card_none, watch_none, pass_18, pass_done}
use Rattle.meter.proofs.Meter.pass.Goals as goal
use Rattle.meter.proofs.Meter.pass.Goals.{In-Some, In_default}

-- there is a watch where the one before is sound
is_some : (t : Bool) (w a : Watch) → Some a ≡ cond t (Some w) None → (t ≡ true) × (a ≡ w)
is_some true w a e = (refl, cc)
is_some false w a e = absurd cc

is_none : (t : Bool) (w : Watch) → None ≡ cond t (Some w) None → t ≡ false
is_none true w e = absurd cc
is_none false w e = refl

-- what the watch has passed
seen : (c : In-Some) →
    let m = c.args.self in
    let q = both c.args.a c.args.volts.now in
    (watch_sound q ≡ true) × (both c.in-Some.watch c.pass.new.volts ≡ passed_by m.force (card_behind m) (turn_of m) q c.args.v.now)
unfolding pass_of volts_after
seen c =
    let m = c.args.self in
    let q = both c.args.a c.args.volts.now in
    let v = c.args.v.now in
    let by = is_some (watch_sound q) (passed_by m.force c.card_behind-next.result c.turn.result q v).watch c.in-Some.watch c.in-Some.ensures.value in
    (by.0, ap₂ both by.1 c.pass.ensures.volts_after ∙ ap₂ (λ (next : Card) (turn : ℕ). passed_by m.force next turn q v) c.card_behind-next.ensures c.turn.ensures)

unseen : (c : In_default) → watch_sound (both c.args.a c.args.volts.now) ≡ false
unfolding pass_of
unseen c = is_none (watch_sound (both c.args.a c.args.volts.now)) _ c.in_default.ensures.value

pub turn-requires : goal.turn-requires
turn-requires c = carded_sound c.args.self (sym c.has_card.ensures ∙ c.if-not-has_card.false)

pub feed-meter-requires : goal.feed-meter-requires
feed-meter-requires c = (carded_sound c.args.self (sym c.has_card.ensures ∙ c.if-not-has_card.false), c.requires)

pub returns : goal.returns
unfolding passed_by
returns c =
    let d = seen (goal.at.returns c).In-Some in
    let a = c.args in
    let m = a.self in
    let v = a.v.now in
    let q = both a.a a.volts.now in
    let w : watch_sound q ≡ true = d.0 in
    let k : carded m ≡ true = sym c.has_card.ensures ∙ c.if-not-has_card.false in
    let e = lengths_same v a.s1.now a.s3.now c.requires in
    let by = d.1
    ∙ ap (λ (b : Bool). cond b (seen_by m.force (card_behind m) (turn_of m) q v) q) w
    ∙ ap (λ (l : List ℤ). seen_by m.force (card_behind m) (turn_of m) q l) (sym (voltages_in v a.s1.now a.s3.now e.0 e.1))
    ∙ sym (watched_by m (samples_in v a.s1.now a.s3.now) q (sound_of_lem m (carded_sound m k)).taken_most) in
    let r = pass_done m q v a.s1.now a.s3.now (both c.in-Some.watch c.pass.new.volts) k w by in
    record { value = ap (λ (m : Meter). accepted (record { meter = m; watch = c.in-Some.watch })) c.feed-meter.ensures ∙ r.0; volts_after = r.1 }

pub returns-in_default : goal.returns-in_default
unfolding passed_by volts_after
returns-in_default c =
    let a = c.args in
    let m = a.self in
    let q = both a.a a.volts.now in
    let w = unseen (goal.at.returns-in_default c).In_default in
    let r = pass_18 m q a.v.now a.s1.now a.s3.now (watch_none m q w) in
    let same = c.pass.ensures.volts_after ∙ ap (λ (b : Bool). (cond b (seen_by m.force c.card_behind-next.result c.turn.result q a.v.now) q).volts) w in
    record { value = r.0; volts_after = same ∙ r.1 }

pub returns-then-not-has_card : goal.returns-then-not-has_card
returns-then-not-has_card c =
    let a = c.args in
    let q = both a.a a.volts.now in
    let r = pass_18 a.self q a.v.now a.s1.now a.s3.now (card_none a.self q (sym c.has_card.ensures ∙ c.if-not-has_card.true)) in
    record { value = r.0; volts_after = r.1 }
