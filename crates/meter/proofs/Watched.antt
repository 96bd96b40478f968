-- The samples of a block pass the watch with at most two cards: the one in force, and from the next interval on the one behind it.
use Prim.Native.Nat.{ℕ, zero, suc, ◌-◌, ◌<◌}
use mathlib.Core.Path.{◌≡◌, refl, sym, ap, ap₂, ◌∙◌}
use mathlib.Core.Bool.{Bool, true, false, cond}
use mathlib.Core.List.{List, [], ◌∷◌, map}
use native.Mathlib.Omega.{arith}
use lib.Dec.{eqb}
use lib.IntN.{ℤ}
use lib.ListN.{length, take, drop, length-take, length-drop}
use borrow.Author.Tests.{eqb-true, eqb-false, eq-eqb, ne_eqb}
use Rattle.steps.specs.Gauge.{Meter, wait_over, worked_on, closing, joins, sample, watches}
use Rattle.card.specs.declared.Card.{Card}
use Rattle.sample.specs.Sums.{Sample, samples_in}
use Rattle.alarm.specs.Alarms.{Watching, seen_with}
use Rattle.halfcycle.specs.Passing.{seen_all, seen_by}
use Rattle.halfcycle.proofs.Parts.{seen_none}
use Rattle.meter.specs.declared.Meter.{Meter as Kept}
use Rattle.meter.specs.Core.{core, meter_of, closed_work}
use Rattle.meter.specs.Inside.{card_behind, turn_of}

-- the raw voltages of samples
abbrev pub voltages : List Sample → List ℤ
voltages xs = map (λ (x : Sample). x.0) xs

pub voltages_in : (v s1 s3 : List ℤ) → length v ≡ length s1 → length v ≡ length s3 → voltages (samples_in v s1 s3) ≡ v
unfolding samples_in
voltages_in [] s1 s3 e f = refl
voltages_in (x ∷ v) [] s3 e f = absurd (omega (arith, e))
voltages_in (x ∷ v) (y ∷ s1) [] e f = absurd (omega (arith, f))
voltages_in (x ∷ v) (y ∷ s1) (z ∷ s3) e f = ap (λ (l : List ℤ). x ∷ l) (voltages_in v s1 s3 (omega (arith, e)) (omega (arith, f)))

-- ---- what a sample leaves of the cards, and how many the interval has then

record Joined (n : ℕ) (m r : Meter core) : Type 0 where
  force : r.force ≡ m.force
  waits : r.waits ≡ m.waits
  waiting : r.waiting ≡ m.waiting
  settings : r.work.settings.n ≡ m.work.settings.n
  taken : r.taken ≡ cond (eqb (suc n) m.work.settings.n) 0 (suc n)

joined : (n : ℕ) (m : Meter core) (x : Sample) → Joined n m (joins core n m.work m x).0
unfolding closed_work
joined n m x = by (eqb (suc n) m.work.settings.n) refl
  where
    by : (b : Bool) → eqb (suc n) m.work.settings.n ≡ b →
        let v = core.add_sample m.force m.work x in Joined n m (cond b (closing core v m) (worked_on core (suc n) v m, [])).0
    by true e = record { force = refl; waits = refl; waiting = refl; settings = refl; taken = ap (λ (b : Bool). cond b 0 (suc n)) (sym e) }
    by false e = record { force = refl; waits = refl; waiting = refl; settings = refl; taken = ap (λ (b : Bool). cond b 0 (suc n)) (sym e) }

-- the card of the next interval
abbrev behind : Meter core → Card
behind m = cond m.waits m.waiting m.force

record First (m r : Meter core) : Type 0 where
  force : r.force ≡ behind m
  waits : r.waits ≡ false

begins_first : (m : Meter core) (x : Sample) → First m (sample core 0 m x).0
begins_first m x = let f = by m.waits refl in record { force = f.0; waits = f.1 }
  where
    by : (b : Bool) → m.waits ≡ b →
        let q = cond b (wait_over core m) m in
        let r = (joins core 0 q.work q x).0 in (r.force ≡ cond b m.waiting m.force) × (r.waits ≡ false)
    by true e = let j = joined 0 (wait_over core m) x in (j.force, j.waits)
    by false e = let j = joined 0 m x in (j.force, j.waits ∙ e)

-- where no card waits, the card in force stays
quiet : (n : ℕ) (m : Meter core) (x : Sample) → m.waits ≡ false → First m (sample core n m x).0
quiet zero m x e = begins_first m x
quiet (suc n) m x e =
    let j = joined (suc n) m x in
    record { force = j.force ∙ ap (λ (b : Bool). cond b m.waiting m.force) (sym e); waits = j.waits ∙ e }

-- so all samples are seen with it
settled : (xs : List Sample) (m : Meter core) (q : Watching) → m.waits ≡ false → watches core xs m q ≡ seen_all m.force q (voltages xs)
unfolding seen_all
settled [] m q e = refl
settled (x ∷ xs) m q e =
    let r = (sample core m.taken m x).0 in
    let f = quiet m.taken m x e in
    let same : r.force ≡ m.force = f.force ∙ ap (λ (b : Bool). cond b m.waiting m.force) e in
    settled xs r (seen_with r.force q x.0) f.waits
    ∙ ap (λ (c : Card). seen_all c (seen_with c q x.0) (voltages xs)) same

-- ---- and where one waits, it comes into force at the next interval

abbrev turn : Meter core → ℕ
turn m = cond (eqb m.taken 0) 0 (m.work.settings.n - m.taken)

-- one sample less before it
turn_less : (n : ℕ) (m r : Meter core) → m.taken ≡ suc n → m.taken < m.work.settings.n → Joined (suc n) m r → turn m ≡ suc (turn r)
turn_less n m r e h j = by (eqb (suc (suc n)) m.work.settings.n) refl
  where
    from : turn m ≡ m.work.settings.n - m.taken
    from = ap (λ (b : Bool). cond b 0 (m.work.settings.n - m.taken)) (ne_eqb m.taken 0 (omega (arith, e)))

    by : (b : Bool) → eqb (suc (suc n)) m.work.settings.n ≡ b → turn m ≡ suc (turn r)
    by true k =
        let t : r.taken ≡ 0 = j.taken ∙ ap (λ (b : Bool). cond b 0 (suc (suc n))) k in
        let z : turn r ≡ 0 = ap (λ (b : Bool). cond b 0 (r.work.settings.n - r.taken)) (eq-eqb r.taken 0 t) in
        from ∙ omega (arith, e, z, eqb-true (suc (suc n)) m.work.settings.n k)
    by false k =
        let t : r.taken ≡ suc (suc n) = j.taken ∙ ap (λ (b : Bool). cond b 0 (suc (suc n))) k in
        let z : turn r ≡ r.work.settings.n - r.taken = ap (λ (b : Bool). cond b 0 (r.work.settings.n - r.taken)) (ne_eqb r.taken 0 (omega (arith, t))) in
        from ∙ omega (arith, e, t, z, j.settings, h)

below : (n : ℕ) (m r : Meter core) → m.taken ≡ suc n → m.taken < m.work.settings.n → Joined (suc n) m r → r.taken < r.work.settings.n
below n m r e h j = by (eqb (suc (suc n)) m.work.settings.n) refl
  where
    by : (b : Bool) → eqb (suc (suc n)) m.work.settings.n ≡ b → r.taken < r.work.settings.n
    by true k = omega (arith, j.taken ∙ ap (λ (b : Bool). cond b 0 (suc (suc n))) k, j.settings, h)
    by false k = omega (arith, j.taken ∙ ap (λ (b : Bool). cond b 0 (suc (suc n))) k, j.settings, h, e, eqb-false (suc (suc n)) m.work.settings.n k)

none_seen : (c next : Card) (n : ℕ) (q : Watching) → q ≡ seen_by c next n q []
unfolding seen_by
none_seen c next n q =
    sym (seen_none next (drop n []) (seen_all c q (take n [])) (omega (arith, length-drop {A = ℤ} n [])) ∙ seen_none c (take n []) q (omega (arith, length-take {A = ℤ} n [])))

abbrev Passed : List Sample → Meter core → Watching → Type 0
Passed xs m q = m.taken < m.work.settings.n → watches core xs m q ≡ seen_by m.force (behind m) (turn m) q (voltages xs)

one_more : (x : Sample) (xs : List Sample) (m : Meter core) (q : Watching) → ((r : Meter core) (z : Watching) → Passed xs r z) → m.taken < m.work.settings.n → (n : ℕ) → m.taken ≡ n →
    watches core xs (sample core n m x).0 (seen_with (sample core n m x).0.force q x.0) ≡ seen_by m.force (behind m) (turn m) q (voltages (x ∷ xs))
unfolding seen_by seen_all
one_more x xs m q ih h zero e =
    let r = (sample core 0 m x).0 in
    let f = begins_first m x in
    settled xs r (seen_with r.force q x.0) f.waits
    ∙ ap (λ (c : Card). seen_all c (seen_with c q x.0) (voltages xs)) f.force
    ∙ ap (λ (b : Bool). seen_by m.force (behind m) (cond b 0 (m.work.settings.n - m.taken)) q (voltages (x ∷ xs))) (sym (eq-eqb m.taken 0 e))
one_more x xs m q ih h (suc n) e =
    let r = (sample core (suc n) m x).0 in
    let j = joined (suc n) m x in
    let same : behind r ≡ behind m =
    ap₂ (λ (b : Bool) (c : Card). cond b c r.force) j.waits j.waiting ∙ ap (λ (c : Card). cond m.waits m.waiting c) j.force in
    ih r (seen_with r.force q x.0) (below n m r e h j)
    ∙ ap₂ (λ (c : Card) (d : Card). seen_by c d (turn r) (seen_with c q x.0) (voltages xs)) j.force same
    ∙ ap (λ (k : ℕ). seen_by m.force (behind m) k q (voltages (x ∷ xs))) (sym (turn_less n m r e h j))

passed : (xs : List Sample) (m : Meter core) (q : Watching) → Passed xs m q
passed [] m q h = none_seen m.force (behind m) (turn m) q
passed (x ∷ xs) m q h = one_more x xs m q (passed xs) h m.taken refl

pub watched_by : (m : Kept) (xs : List Sample) (q : Watching) → m.taken < m.work.settings.n →
    watches core xs (meter_of m) q ≡ seen_by m.force (card_behind m) (turn_of m) q (voltages xs)
unfolding card_behind turn_of
watched_by m xs q h = passed xs (meter_of m) q h
