-- A fresh watch is good, and a reset leaves a good one good.
use Prim.Native.Nat.{ℕ, zero, suc, ◌≤◌}
use mathlib.Core.Path.{◌≡◌, refl, sym}
use mathlib.Core.Bool.{true}
use mathlib.Core.List.{List}
use native.Mathlib.Omega.{arith}
use lib.Dec.{lit≤}
use lib.IntN.{ℤ, pos}
use lib.ListN.{replicate, length-replicate}
use Rattle.range.specs.Range.{in24}
use Rattle.sample.specs.Sample.{every24}
use Rattle.sample.proofs.Tests.{both_of}
use Rattle.alarm.specs.declared.Alarms.{Alarms}
use Rattle.alarm.specs.declared.Asked.{Asked}
use Rattle.alarm.specs.declared.Limits.{Limits}
use Rattle.alarm.specs.declared.Watch.{Watch}
use Rattle.alarm.specs.Masks.{only_alarms}
use Rattle.alarm.specs.Alarms.{cleared_of}
use Rattle.alarm.specs.Starting.{numbers_ok, asked_ok, limits_of, limits_in, fresh_watch, lowest_limits, lowest_watch, no_volts}
use Rattle.alarm.proofs.Starts.{numbers_in}
use Rattle.halfcycle.specs.Passing.{squares}
use Rattle.halfcycle.specs.Inside.{Ranged, Good}

every_zero : (n : ℕ) → every24 (replicate n (pos 0)) ≡ true
unfolding every24 in24
every_zero zero = refl
every_zero (suc n) = every_zero n

squares_zero : (n : ℕ) → squares (replicate n (pos 0)) ≡ 0
unfolding squares
squares_zero zero = refl
squares_zero (suc n) = omega (arith, squares_zero n)

pub fresh_good : (t : Limits) → Ranged t → 1 ≤ t.w → Good (fresh_watch t) no_volts
fresh_good t h l = record {
  ranged = h;
  seen = omega arith;
  kept = record { w_most = h.w; at_less = l; long = length-replicate 512 (pos 0); all24 = every_zero 512; sum_is = sym (squares_zero 512) };
}

pub lowest_good : Good lowest_watch no_volts
lowest_good = fresh_good lowest_limits (record { w = lit≤ tt; vsag = lit≤ tt; vsurge = lit≤ tt }) (lit≤ tt)

pub asked_good : (q : Asked) → asked_ok q ≡ true → Good (fresh_watch (limits_in q)) no_volts
unfolding asked_ok limits_of
asked_good q e =
    let h = numbers_in q.w q.vsag q.vsurge (both_of (numbers_ok q.w q.vsag q.vsurge) (only_alarms q.sticky) e).0 in
    fresh_good (limits_in q) (record { w = h.w.2; vsag = h.vsag.2; vsurge = h.vsurge.2 }) h.w.1

-- and a reset leaves a good one good
pub cleared_good : (named : Alarms) (a : Watch) (volts : List ℤ) → Good a volts → Good (cleared_of named a) volts
unfolding cleared_of
cleared_good named a volts h = record { ranged = h.ranged; seen = h.seen; kept = h.kept }
