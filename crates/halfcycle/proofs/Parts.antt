-- Voltages of one card, taken by the loop, are what they are one after another.
use Prim.Native.Nat.{ℕ, suc, ◌+◌, ◌-◌, ◌≤◌, ◌<◌, min, max}
use mathlib.Core.Path.{◌≡◌, refl, sym, ap, ap₂, ◌∙◌}
use mathlib.Core.Bool.{Bool, true, false, ◌&&◌, ◌||◌, true≢false}
use mathlib.Core.List.{List, [], ◌∷◌, ◌++◌}
use native.Mathlib.Nat.{suc-ne-zero, not-suc-le-zero}
use native.Mathlib.Omega.{arith}
use lib.Dec.{leb, ltb}
use lib.IntN.{ℤ}
use lib.ListN.{length, take, drop, length-drop, take-append-drop}
use lib.Seq.{take_all}
use borrow.Author.Tests.{le-leb, lt-leb, le-ltb}
use Rattle.card.specs.declared.Card.{Card}
use Rattle.sample.specs.Sample.{voltage, corrected}
use Rattle.sample.specs.Fields.{voffs, vgain}
use Rattle.sample.proofs.Corrections.{corrected_in}
use Rattle.alarm.specs.declared.Alarms.{Alarms}
use Rattle.alarm.specs.declared.Limits.{Limits}
use Rattle.alarm.specs.declared.Watch.{Watch}
use Rattle.halfcycle.specs.declared.Levels.{Levels}
use Rattle.halfcycle.specs.declared.Sweep.{Sweep}
use Rattle.alarm.specs.Alarms.{Watching, both, shown, alarms_after, watched, seen_with}
use Rattle.halfcycle.specs.Passing.{seen_all}
use Rattle.halfcycle.specs.Inside.{Swing, swing, moved_by, swept, swept_all, levels_of, track_of, Good, Uniform}
use Rattle.halfcycle.proofs.Windows.{kept_most, kept_slid}
use Rattle.halfcycle.proofs.Comparing.{sag_level, surge_level, low_most, least_below, most_above, shown_ever, or_more, or_false, still_ever}

-- ---- a good watch stays good

min_most : (w n : ℕ) → min w n ≤ w
min_most w n = omega arith

pub good_more : (c : Card) (a : Watch) (volts : List ℤ) (raw : ℤ) → Good a volts → let q = seen_with c (both a volts) raw in Good q.watch q.volts
unfolding seen_with watched voltage
good_more c a volts raw h = record {
  ranged = h.ranged;
  seen = min_most a.limits.w (suc a.seen);
  kept = kept_slid (corrected raw (voffs c) (vgain c)) (corrected_in raw (voffs c) (vgain c)) h.kept;
}

pub good_all : (c : Card) (v : List ℤ) (a : Watch) (volts : List ℤ) → Good a volts → let q = seen_all c (both a volts) v in Good q.watch q.volts
unfolding seen_all
good_all c [] a volts h = h
good_all c (x ∷ v) a volts h = let q = seen_with c (both a volts) x in good_all c v q.watch q.volts (good_more c a volts x h)

pub seen_append : (c : Card) (u v : List ℤ) (q : Watching) → seen_all c q (u ++ v) ≡ seen_all c (seen_all c q u) v
unfolding seen_all
seen_append c [] v q = refl
seen_append c (x ∷ u) v q = seen_append c u v (seen_with c q x)

pub seen_split : (c : Card) (n : ℕ) (v : List ℤ) (q : Watching) → seen_all c (seen_all c q (take n v)) (drop n v) ≡ seen_all c q v
seen_split c n v q = sym (seen_append c (take n v) (drop n v) q) ∙ ap (seen_all c q) (take-append-drop n v)

pub seen_none : (c : Card) (v : List ℤ) (q : Watching) → length v ≡ 0 → seen_all c q v ≡ q
unfolding seen_all
seen_none c [] q e = refl
seen_none c (x ∷ v) q e = absurd (suc-ne-zero (length v) e)

-- ---- how many were seen

pub seen_count : (c : Card) (v : List ℤ) (q : Watching) → q.watch.seen ≤ q.watch.limits.w → (seen_all c q v).watch.seen ≡ min q.watch.limits.w (q.watch.seen + length v)
unfolding seen_all seen_with watched
seen_count c [] q h = omega arith
seen_count c (x ∷ v) q h = let n = seen_count c v (seen_with c q x) (min_most q.watch.limits.w (suc q.watch.seen)) in omega (arith, n)

pub seen_limits : (c : Card) (v : List ℤ) (q : Watching) → (seen_all c q v).watch.limits ≡ q.watch.limits
unfolding seen_all seen_with watched
seen_limits c [] q = refl
seen_limits c (x ∷ v) q = seen_limits c v (seen_with c q x)

-- ---- the loop, from flags that count as far as an alarm is sticky

abbrev pub sweep_from : Watch → ℕ → ℕ → Sweep
sweep_from a least most = record { at = a.at; sum = a.sum; least = least; most = most }

-- whether it was ever so, from what was before the loop and what the loop has seen
abbrev ever_sag : Levels → Alarms → Sweep → Bool
ever_sag l was s = was.sag || ltb s.least l.low

abbrev ever_surge : Levels → Alarms → Sweep → Bool
ever_surge l was s = was.surge || ltb l.high s.most

-- what is made of the loop's end
abbrev pub alarms_of : Limits → Levels → Alarms → Sweep → Alarms
alarms_of t l was s = record {
  sag = (t.sticky.sag && ever_sag l was s) || ltb s.sum l.low;
  surge = (t.sticky.surge && ever_surge l was s) || ltb l.high s.sum;
}

abbrev pub settled : Limits → Levels → Alarms → ℕ → Swing → Watching
settled t l was seen q =
    both (record { limits = t; at = q.sweep.at; seen = seen; sum = q.sweep.sum; alarms = alarms_of t l was q.sweep }) q.volts

uniform_first : (full : Bool) (a : Watch) (n : ℕ) → Uniform full a (suc n) → leb a.limits.w (min a.limits.w (suc a.seen)) ≡ full
uniform_first true a n u = le-leb a.limits.w (min a.limits.w (suc a.seen)) (omega (arith, u.each refl))
uniform_first false a n u = lt-leb a.limits.w (min a.limits.w (suc a.seen)) (omega (arith, u.none refl))

uniform_rest : (full : Bool) (c : Card) (a : Watch) (volts : List ℤ) (raw : ℤ) (n : ℕ) → Uniform full a (suc n) → Uniform full (seen_with c (both a volts) raw).watch n
unfolding seen_with watched
uniform_rest full c a volts raw n u = record { each = λ e. omega (arith, u.each e); none = λ e. omega (arith, u.none e) }

pub uniform_all : (a : Watch) (n : ℕ) → a.limits.w ≤ a.seen + 1 → Uniform true a n
uniform_all a n h = record { each = λ e. h; none = λ e. absurd (true≢false e) }

pub uniform_none : (a : Watch) (n : ℕ) → a.seen + n < a.limits.w → Uniform false a n
uniform_none a n h = record { each = λ e. absurd (true≢false (sym e)); none = λ e. h }

-- the part of a slice from n on
pub lent_rest : (n : ℕ) (v : List ℤ) → take (length v - n) (drop n v) ≡ drop n v
lent_rest n v = take_all (length v - n) (drop n v) (omega (arith, length-drop n v))

-- whether the flags agree with the alarms, as far as these are sticky
abbrev pub Flags : Watch → Bool → Bool → Type 0
Flags a b d = ((a.limits.sticky.sag && b) ≡ (a.limits.sticky.sag && a.alarms.sag)) × ((a.limits.sticky.surge && d) ≡ (a.limits.sticky.surge && a.alarms.surge))

module _ (c : Card) (full : Bool) (was : Alarms) where
  -- one voltage; from here on `was` are the alarms before the loop
  one : (a : Watch) (volts : List ℤ) (least most : ℕ) (x : ℤ) (n : ℕ) → Good a volts → Uniform full a (suc n) →
      let l = levels_of a.limits full in
      let t = sweep_from a least most in
      Flags a (ever_sag l was t) (ever_surge l was t) →
      let q = (seen_with c (both a volts) x).watch in
      let r = (swept (track_of c a.limits.w) (swing t volts) x).sweep in
      (q.alarms ≡ alarms_of a.limits l was r) × Flags q (ever_sag l was r) (ever_surge l was r)
  unfolding seen_with watched swept moved_by track_of levels_of voltage alarms_after
  one a volts least most x n h u f =
      let t = a.limits in
      let l = levels_of t full in
      let q = (seen_with c (both a volts) x).watch in
      let s = sag_level t full q.seen q.sum (uniform_first full a n u) in
      let z = surge_level t full q.seen q.sum (uniform_first full a n u) (kept_most (good_more c a volts x h).kept).1 in
      let low = ltb q.sum l.low in
      let high = ltb l.high q.sum in
      let k = t.sticky in
      let old = a.alarms in
      let b = was.sag || ltb least l.low in
      let d = was.surge || ltb l.high most in
      let b_more : (b || low) ≡ (was.sag || ltb (min q.sum least) l.low) =
      sym (or_more was.sag (ltb least l.low) low) ∙ ap (λ (e : Bool). was.sag || e) (sym (least_below least q.sum l.low)) in
      let d_more : (d || high) ≡ (was.surge || ltb l.high (max q.sum most)) =
      sym (or_more was.surge (ltb l.high most) high) ∙ ap (λ (e : Bool). was.surge || e) (sym (most_above most q.sum l.high)) in (
        ap₂ (λ (sag : Bool) (surge : Bool). record { sag = sag; surge = surge })
            (ap (shown k.sag old.sag) s ∙ shown_ever k.sag old.sag b low f.0 ∙ ap (λ (e : Bool). (k.sag && e) || low) b_more)
            (ap (shown k.surge old.surge) z ∙ shown_ever k.surge old.surge d high f.1 ∙ ap (λ (e : Bool). (k.surge && e) || high) d_more),
        (
          ap (λ (e : Bool). k.sag && e) (sym b_more)
              ∙ still_ever k.sag old.sag b low f.0 ∙ ap (λ (e : Bool). k.sag && shown k.sag old.sag e) (sym s),
          ap (λ (e : Bool). k.surge && e) (sym d_more)
              ∙ still_ever k.surge old.surge d high f.1 ∙ ap (λ (e : Bool). k.surge && shown k.surge old.surge e) (sym z),
        ),
      )

  -- all of them
  pub runs : (v : List ℤ) (x : ℤ) (a : Watch) (volts : List ℤ) (least most : ℕ) → Good a volts → Uniform full a (suc (length v)) →
      let l = levels_of a.limits full in
      let t = sweep_from a least most in
      Flags a (ever_sag l was t) (ever_surge l was t) →
      seen_all c (both a volts) (x ∷ v) ≡ settled a.limits l was (min a.limits.w (a.seen + suc (length v))) (swept_all (track_of c a.limits.w) (swing t volts) (x ∷ v))
  unfolding seen_all swept_all seen_with watched swept moved_by track_of voltage
  runs [] x a volts least most h u f =
      let r = swept (track_of c a.limits.w) (swing (sweep_from a least most) volts) x in
      ap₂ (λ (seen : ℕ) (alarms : Alarms). both (record { limits = a.limits; at = r.sweep.at; seen = seen; sum = r.sweep.sum; alarms = alarms }) r.volts)
      (omega arith) (one a volts least most x 0 h u f).0
  runs (y ∷ v) x a volts least most h u f =
      let t = a.limits in
      let q = seen_with c (both a volts) x in
      let r = swept (track_of c t.w) (swing (sweep_from a least most) volts) x in
      let o = one a volts least most x (suc (length v)) h u f in
      runs v y q.watch q.volts r.sweep.least r.sweep.most (good_more c a volts x h) (uniform_rest full c a volts x (suc (length v)) u) o.1
      ∙ ap (λ (seen : ℕ). settled t (levels_of t full) was seen (swept_all (track_of c t.w) r (y ∷ v))) (omega arith)

pub runs_all : (c : Card) (full : Bool) (v : List ℤ) (a : Watch) (volts : List ℤ) → 0 < length v → Good a volts → Uniform full a (length v) →
    seen_all c (both a volts) v ≡
    settled a.limits (levels_of a.limits full) a.alarms (min a.limits.w (a.seen + length v))
    (swept_all (track_of c a.limits.w) (swing (sweep_from a 18446744073709551615 0) volts) v)
runs_all c full [] a volts l h u = absurd (not-suc-le-zero l)
runs_all c full (x ∷ v) a volts l h u =
    let t = a.limits in
    let none_low : ltb 18446744073709551615 (levels_of t full).low ≡ false = le-ltb 18446744073709551615 (levels_of t full).low (low_most t full h.ranged) in
    let none_high : ltb (levels_of t full).high 0 ≡ false = le-ltb (levels_of t full).high 0 (omega arith) in
    runs c full a.alarms v x a volts 18446744073709551615 0 h u (
      ap (λ (b : Bool). t.sticky.sag && (a.alarms.sag || b)) none_low ∙ ap (λ (b : Bool). t.sticky.sag && b) (or_false a.alarms.sag),
      ap (λ (b : Bool). t.sticky.surge && (a.alarms.surge || b)) none_high ∙ ap (λ (b : Bool). t.sticky.surge && b) (or_false a.alarms.surge),
    )
