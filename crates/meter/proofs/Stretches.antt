-- A stretch of one interval's samples is what the samples give one after another.
use Prim.Native.Nat.{ℕ, zero, suc, ◌+◌, ◌-◌, ◌≤◌, ◌<◌}
use mathlib.Core.Path.{◌≡◌, refl, sym, ap, ◌∙◌}
use mathlib.Core.Bool.{Bool, true, false, cond}
use mathlib.Core.List.{List, [], ◌∷◌, ◌++◌}
use native.Mathlib.Nat.{add-zero}
use native.Mathlib.Omega.{arith}
use lib.Dec.{eqb}
use lib.ListN.{length, take, drop, take-append-drop, length-take, length-drop, drop_of_length-le}
use lib.Seq.{drop-drop}
use borrow.Author.Tests.{eq-eqb, ne_eqb}
use Rattle.steps.specs.Gauge.{Meter, worked_on, wait_over, begun, closing, joins, sample, samples}
use Rattle.interval.specs.declared.Closed.{Closed}
use Rattle.meter.specs.declared.Work.{Work}
use Rattle.meter.specs.declared.Meter.{Meter as Kept}
use Rattle.sample.specs.Sums.{Sample, added, added_all}
use Rattle.meter.specs.Core.{core, meter_of, kept_of, with_sums, closed_work}
use Rattle.meter.specs.Inside.{fed_of, begun_of, end_of, stretch_of}

-- a sample has joined, and closes the interval or not
abbrev joined_by : Bool → ℕ → Work → Meter core → Meter core × List Closed
joined_by b n w m = cond b (closing core w m) (worked_on core n w m, [])

joined_is : (b : Bool) (n : ℕ) (w : Work) (m : Meter core) → kept_of (joined_by b n w m).0 ≡
    cond b (record { waits = m.waits; waiting = m.waiting; forced = m.forced; force = m.force; taken = 0; work = closed_work m.force w })
    (record { waits = m.waits; waiting = m.waiting; forced = m.forced; force = m.force; taken = n; work = w })
joined_is true n w m = refl
joined_is false n w m = refl

joins_run : (xs : List Sample) (x : Sample) (n : ℕ) (w : Work) (m : Meter core) → suc n + length xs ≤ w.settings.n →
    kept_of (samples core xs (joins core n w m x).0).0 ≡ end_of (suc n + length xs) (with_sums w (added_all m.force w.settings.config w.sums (x ∷ xs))) (kept_of m)
unfolding end_of added_all
joins_run [] x n w m h =
    joined_is (eqb (suc n) w.settings.n) (suc n) (with_sums w (added m.force w.settings.config w.sums x)) m
    ∙ ap (λ (k : ℕ). end_of k (with_sums w (added m.force w.settings.config w.sums x)) (kept_of m)) (sym (add-zero (suc n)))
joins_run (y ∷ ys) x n w m h =
    let w' = with_sums w (added m.force w.settings.config w.sums x) in
    let more : suc (suc n) + length ys ≡ suc n + suc (length ys) = omega arith in
    ap (λ (b : Bool). kept_of (samples core (y ∷ ys) (joined_by b (suc n) w' m).0).0) (ne_eqb (suc n) w.settings.n (omega arith))
    ∙ joins_run ys y (suc n) w' (worked_on core (suc n) w' m) (omega arith)
    ∙ ap (λ (k : ℕ). end_of k (with_sums w (added_all m.force w.settings.config (added m.force w.settings.config w.sums x) (y ∷ ys))) (kept_of m)) more

begun_work : (b : Bool) (m : Meter core) → (cond b (wait_over core m) m).work ≡ m.work
begun_work true m = refl
begun_work false m = refl

module _ (m : Kept) (x : Sample) (xs : List Sample) (h : m.taken + suc (length xs) ≤ m.work.settings.n) where
  abbrev from : Kept → ℕ → Kept
  from q n = end_of (n + suc (length xs)) (with_sums q.work (added_all q.force q.work.settings.config q.work.sums (x ∷ xs))) q

  fed_by : (n : ℕ) → m.taken ≡ n → kept_of (samples core xs (sample core n (meter_of m) x).0).0 ≡ from (begun_of m) m.taken
  unfolding begun_of
  fed_by zero e =
      let q = begun core (meter_of m) in
      let w : q.work ≡ m.work = begun_work m.waits (meter_of m) in
      let one : suc 0 + length xs ≡ m.taken + suc (length xs) = omega arith in
      joins_run xs x 0 q.work q (rw w (omega arith))
      ∙ ap (λ (k : ℕ). end_of k (with_sums q.work (added_all q.force q.work.settings.config q.work.sums (x ∷ xs))) (kept_of q)) one
      ∙ ap (λ (b : Bool). from (cond b (kept_of q) m) m.taken) (sym (eq-eqb m.taken 0 e))
  fed_by (suc n) e =
      let one : suc (suc n) + length xs ≡ m.taken + suc (length xs) = omega arith in
      joins_run xs x (suc n) m.work (meter_of m) (omega arith)
      ∙ ap (λ (k : ℕ). end_of k (with_sums m.work (added_all m.force m.work.settings.config m.work.sums (x ∷ xs))) m) one
      ∙ ap (λ (b : Bool). from (cond b (kept_of (begun core (meter_of m))) m) m.taken) (sym (ne_eqb m.taken 0 (omega arith)))

  fed_one : fed_of m (x ∷ xs) ≡ stretch_of m (x ∷ xs)
  unfolding fed_of stretch_of
  fed_one = fed_by m.taken refl

pub fed_is : (m : Kept) (xs : List Sample) → 0 < length xs → m.taken + length xs ≤ m.work.settings.n → fed_of m xs ≡ stretch_of m xs
fed_is m [] p h = absurd (omega arith)
fed_is m (x ∷ xs) p h = fed_one m x xs h

samples_append : (xs ys : List Sample) (m : Meter core) → (samples core (xs ++ ys) m).0 ≡ (samples core ys (samples core xs m).0).0
samples_append [] ys m = refl
samples_append (x ∷ xs) ys m = samples_append xs ys (sample core m.taken m x).0

pub fed_append : (m : Kept) (xs ys : List Sample) → fed_of m (xs ++ ys) ≡ fed_of (fed_of m xs) ys
unfolding fed_of
fed_append m xs ys = ap kept_of (samples_append xs ys (meter_of m))

pub fed_none : (m : Kept) → fed_of m [] ≡ m
unfolding fed_of
fed_none m = refl

-- a turn of the loop over intervals
pub fed_more : (m : Kept) (xs : List Sample) (a to : ℕ) → a < to → to ≤ length xs → m.taken + (to - a) ≤ m.work.settings.n →
    fed_of m (drop a xs) ≡ fed_of (stretch_of m (take (to - a) (drop a xs))) (drop to xs)
fed_more m xs a to h l n =
    let k = to - a in
    let long : length (take k (drop a xs)) ≡ k = simp (length-take, length-drop) (omega arith) in
    let reach : a + k ≡ to = omega arith in
    ap (fed_of m) (sym (take-append-drop k (drop a xs)))
    ∙ fed_append m (take k (drop a xs)) (drop k (drop a xs))
    ∙ ap (λ (z : Kept). fed_of z (drop k (drop a xs))) (fed_is m (take k (drop a xs)) (omega arith) (omega arith))
    ∙ ap (fed_of (stretch_of m (take k (drop a xs)))) (drop-drop k a xs ∙ ap (λ (j : ℕ). drop j xs) reach)

pub fed_end : (m : Kept) (xs : List Sample) (a : ℕ) → length xs ≤ a → fed_of m (drop a xs) ≡ m
fed_end m xs a h = ap (fed_of m) (drop_of_length-le xs h) ∙ fed_none m
