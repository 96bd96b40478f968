-- A stretch keeps a sound state sound.
use Prim.Native.Nat.{ℕ, ◌+◌, ◌≤◌, ◌<◌}
use mathlib.Core.Path.{◌≡◌, refl, sym, subst}
use mathlib.Core.Bool.{Bool, true, false, cond}
use mathlib.Core.List.{List}
use native.Mathlib.Omega.{arith}
use lib.Dec.{eqb}
use lib.ListN.{length}
use borrow.Author.Tests.{eqb-false}
use Rattle.steps.specs.Gauge.{wait_over}
use Rattle.sample.specs.Sums.{Sample, added_all}
use Rattle.meter.specs.declared.Work.{Work}
use Rattle.meter.specs.declared.Meter.{Meter as Kept}
use Rattle.meter.proofs.Sound.{Sound}
use Rattle.sample.specs.Inside.{Room, Phased}
use Rattle.meter.specs.Core.{core, meter_of, kept_of, with_sums, closed_work}
use Rattle.meter.specs.Inside.{begun_of, end_of, stretch_of}
use Rattle.sample.proofs.Rooms.{all_room, empty_room}

-- a choice, case by case
pub cond_case : (t : Bool) {A : Type 0} (P : A → Type 0) {x y : A} → (t ≡ true → P x) → (t ≡ false → P y) → P (cond t x y)
cond_case true P p q = p refl
cond_case false P p q = q refl

-- ---- the card that comes into force
pub record Begun (m q : Kept) : Type 0 where
  pub work : q.work ≡ m.work
  pub taken : q.taken ≡ m.taken
  pub waiting : Phased q.waiting
  pub force : Phased q.force

by_waits : (b : Bool) (m : Kept) → Sound m → Begun m (kept_of (cond b (wait_over core (meter_of m)) (meter_of m)))
by_waits true m h = record { work = refl; taken = refl; waiting = h.waiting; force = h.waiting }
by_waits false m h = record { work = refl; taken = refl; waiting = h.waiting; force = h.force }

pub begun_is : (m : Kept) → Sound m → Begun m (begun_of m)
unfolding begun_of
begun_is m h = cond_case (eqb m.taken 0) (λ (q : Kept). Begun m q) (λ t. by_waits m.waits m h) (λ t. by_waits false m h)

-- ---- the whole
closed_sound : (q : Kept) (w : Work) → 0 < w.settings.n → w.settings.n ≤ 4096 → Phased q.waiting → Phased q.force →
    Sound (record { waits = q.waits; waiting = q.waiting; forced = q.forced; force = q.force; taken = 0; work = closed_work q.force w })
unfolding closed_work
closed_sound q w n1 n2 f g = record { n_most = n2; taken_most = n1; room = empty_room w.sums; waiting = f; force = g }

end_sound : (q : Kept) (w : Work) (n : ℕ) → 0 < w.settings.n → w.settings.n ≤ 4096 → n ≤ w.settings.n → Room w.sums n → Phased q.waiting → Phased q.force → Sound (end_of n w q)
unfolding end_of
end_sound q w n n1 n2 l r f g =
    cond_case (eqb n w.settings.n) (λ (x : Kept). Sound x)
    (λ t. closed_sound q w n1 n2 f g)
    (λ t. record { n_most = n2; taken_most = omega (arith, eqb-false n w.settings.n t); room = r; waiting = f; force = g })

pub stretch_sound : (m : Kept) (xs : List Sample) → Sound m → m.taken + length xs ≤ m.work.settings.n → Sound (stretch_of m xs)
unfolding stretch_of
stretch_sound m xs h l =
    let q = begun_of m in
    let b = begun_is m h in
    subst (λ (w : Work). Sound (end_of (m.taken + length xs) (with_sums w (added_all q.force w.settings.config w.sums xs)) q)) (sym b.work)
    (end_sound q (with_sums m.work (added_all q.force m.work.settings.config m.work.sums xs)) (m.taken + length xs) (omega (arith, h.taken_most)) h.n_most l
    (all_room q.force m.work.settings.config xs m.work.sums m.taken h.room) b.waiting b.force)
