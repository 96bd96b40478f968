-- What it says that no sum of the running interval can overflow, in parts.
use Prim.Native.Nat.{◌≤◌, ◌<◌}
use mathlib.Core.Path.{◌≡◌, ap₂}
use mathlib.Core.Bool.{Bool, true, ◌&&◌, ◌||◌}
use borrow.Author.Tests.{leb-true, ltb-true, le-leb, lt-ltb}
use native.Mathlib.Omega.{arith}
use Rattle.sample.specs.Inside.{Room, Phased}
use Rattle.sample.proofs.Tests.{both_of, phased_of, phased_yes, room_of, room_yes}
use Rattle.meter.specs.declared.Meter.{Meter}
use Rattle.meter.specs.Blocks.{sound_of, carded}

pub record Sound (m : Meter) : Type 0 where
  pub n_most : m.work.settings.n ≤ 4096
  pub taken_most : m.taken < m.work.settings.n
  pub room : Room m.work.sums m.taken
  pub waiting : Phased m.waiting
  pub force : Phased m.force

pub sound_of_lem : (m : Meter) → sound_of m ≡ true → Sound m
unfolding sound_of
sound_of_lem m e =
    let c4 : _ = both_of _ _ e in
    let c3 : _ = both_of _ _ c4.0 in
    let c2 : _ = both_of _ _ c3.0 in
    let c1 : _ = both_of _ _ c2.0 in
    record {
      n_most = leb-true _ _ c1.0;
      taken_most = ltb-true _ _ c1.1;
      room = (room_of m.taken m.work.sums c2.1).1;
      waiting = phased_of m.waiting c3.1;
      force = phased_of m.force c4.1;
    }

both_true : {s t : Bool} → s ≡ true → t ≡ true → s && t ≡ true
both_true p q = ap₂ ◌&&◌ p q

pub sound_yes : (m : Meter) → Sound m → sound_of m ≡ true
unfolding sound_of
sound_yes m h =
    both_true (both_true (both_true (both_true (le-leb _ _ h.n_most) (lt-ltb _ _ h.taken_most))
    (room_yes m.taken m.work.sums (omega (arith, h.n_most, h.taken_most)) h.room))
    (phased_yes m.waiting h.waiting)) (phased_yes m.force h.force)

-- a card is there only in a sound state
pub carded_sound : (m : Meter) → carded m ≡ true → sound_of m ≡ true
unfolding carded
carded_sound m e = (both_of (sound_of m) (m.waits || m.forced) e).0
