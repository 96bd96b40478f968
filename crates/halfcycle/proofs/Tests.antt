-- What the test of a watch says, and that a good one passes it.
use Prim.Native.Nat.{ℕ, ◌≤◌}
use mathlib.Core.Path.{◌≡◌, sym, ap, ap₂, ◌∙◌}
use mathlib.Core.Bool.{Bool, true, false, cond, ◌&&◌}
use mathlib.Core.List.{List}
use Rattle.std.specs.Prelude.{Some, None}
use lib.IntN.{ℤ}
use lib.ListN.{length, take, drop, length-drop}
use lib.Seq.{take_all}
use native.Mathlib.Omega.{arith}
use borrow.Author.Tests.{leb-true, ltb-true, eqb-true, le-leb, lt-ltb, eq-eqb}
use Rattle.sample.proofs.Tests.{both_of}
use Rattle.alarm.specs.declared.Watch.{Watch}
use Rattle.card.specs.declared.Card.{Card}
use Rattle.alarm.specs.Alarms.{Watching, both}
use Rattle.halfcycle.specs.Passing.{seen_all, seen_by, watch_sound, passed_by, pass_of, volts_after}
use Rattle.halfcycle.specs.Inside.{Good}
use Rattle.halfcycle.proofs.Parts.{seen_none}

pub good_of : (a : Watch) (volts : List ℤ) → length volts ≡ 512 → watch_sound (both a volts) ≡ true → Good a volts
unfolding watch_sound
good_of a volts l e =
    let c5 : _ = both_of _ _ e in
    let c4 : _ = both_of _ _ c5.0 in
    let c3 : _ = both_of _ _ c4.0 in
    let c2 : _ = both_of _ _ c3.0 in
    let c1 : _ = both_of _ _ c2.0 in
    let s : _ = both_of _ _ c5.1 in
    record {
      ranged = record { w = leb-true _ _ c1.0; vsag = leb-true _ _ c3.1; vsurge = leb-true _ _ c4.1 };
      seen = leb-true _ _ c2.1;
      kept = record { w_most = leb-true _ _ c1.0; at_less = ltb-true _ _ c1.1; long = l; all24 = s.0; sum_is = eqb-true _ _ s.1 };
    }

both_true : {s t : Bool} → s ≡ true → t ≡ true → s && t ≡ true
both_true p q = ap₂ ◌&&◌ p q

pub good_yes : (a : Watch) (volts : List ℤ) → Good a volts → watch_sound (both a volts) ≡ true
unfolding watch_sound
good_yes a volts h =
    both_true (both_true (both_true (both_true (both_true (le-leb _ _ h.ranged.w) (lt-ltb _ _ h.kept.at_less)) (le-leb _ _ h.seen))
    (le-leb _ _ h.ranged.vsag)) (le-leb _ _ h.ranged.vsurge)) (both_true h.kept.all24 (eq-eqb _ _ h.kept.sum_is))

-- ---- the ways of a pass

module _ (c next : Card) (turn : ℕ) (q : Watching) (v : List ℤ) where
  by_sound : (b : Bool) → watch_sound q ≡ b → passed_by c next turn q v ≡ cond b (seen_by c next turn q v) q
  unfolding passed_by
  by_sound b e = ap (λ (b : Bool). cond b (seen_by c next turn q v) q) e

  comes : (b : Bool) (r : Watching) → watch_sound q ≡ b → r ≡ passed_by c next turn q v →
      (cond b (Some r.watch) None ≡ pass_of c next turn q v) × (r.volts ≡ volts_after c next turn q v)
  unfolding pass_of volts_after
  comes b r e f = (ap₂ (λ (b : Bool) (z : Watching). cond b (Some z.watch) None) (sym e) f, ap (λ (z : Watching). z.volts) f)

  pub pass_yes : (r : Watching) → watch_sound q ≡ true → r ≡ seen_by c next turn q v →
      (Some r.watch ≡ pass_of c next turn q v) × (r.volts ≡ volts_after c next turn q v)
  pass_yes r e f = comes true r e (f ∙ sym (by_sound true e))

  pub pass_no : watch_sound q ≡ false → (None ≡ pass_of c next turn q v) × (q.volts ≡ volts_after c next turn q v)
  pass_no e = comes false q e (sym (by_sound false e))

  -- where no voltage comes with the next card
  pub pass_one : length v ≤ turn → seen_all c q v ≡ seen_by c next turn q v
  unfolding seen_by
  pass_one h =
      ap (seen_all c q) (sym (take_all turn v h)) ∙ sym (seen_none next (drop turn v) (seen_all c q (take turn v)) (omega (arith, length-drop turn v)))
