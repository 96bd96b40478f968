-- What the alarms mean, without a watch: of the list of all corrected voltages, the settings and the resets. `proofs/History.antt` shows that a watch, kept
-- voltage by voltage from a start on, comes to that.
use Rattle.std.specs.Prelude.{ℕ, zero, suc, ◌-◌, ◌≡◌, Bool, false, cond, ◌&&◌, ◌||◌, List, [], ◌∷◌, eqb, ltb, ℤ, length, take, drop}
use Rattle.steps.specs.Answers.{or_as_before}
use Rattle.alarm.specs.declared.Alarms.{Alarms}
use Rattle.alarm.specs.declared.Limits.{Limits}
use Rattle.alarm.specs.Masks.{only_alarms, named_by, no_alarms}
use Rattle.alarm.specs.Alarms.{Watching, both, sags, surges, watched, clearing}
use Rattle.halfcycle.specs.Passing.{squares}

-- ---- what comes: a corrected voltage, or a reset with its mask

pub data Came : Type 0 where
  voltage : ℤ → Came
  reset : ℤ → Came

-- the voltages among them
abbrev pub voltages_of : List Came → List ℤ
voltages_of [] = []
voltages_of (voltage v ∷ r) = v ∷ voltages_of r
voltages_of (reset mask ∷ r) = voltages_of r

-- the alarms that a reset names; one that is refused names none
abbrev pub reset_names : ℤ → Alarms
reset_names mask = cond (only_alarms mask) (named_by mask) no_alarms

-- how many voltages had come when a reset named the alarm last, 0 if none did; n have come so far, and `last` had then
abbrev pub since_reset : (Alarms → Bool) → ℕ → ℕ → List Came → ℕ
since_reset alarm n last [] = last
since_reset alarm n last (voltage v ∷ r) = since_reset alarm (suc n) last r
since_reset alarm n last (reset mask ∷ r) = since_reset alarm n (cond (alarm (reset_names mask)) n last) r

-- ---- what is compared

-- the sum of the squares of the last w
abbrev pub last_squares : ℕ → List ℤ → ℕ
last_squares w vs = squares (drop (length vs - w) vs)

-- sag, and surge, after these voltages
abbrev pub sagging : Limits → List ℤ → Bool
sagging t vs = sags t (length vs) (last_squares t.w vs)

abbrev pub surging : Limits → List ℤ → Bool
surging t vs = surges t (length vs) (last_squares t.w vs)

-- ---- when an alarm stands

-- it is so of some number above `low`, up to the second
abbrev pub some_above : ℕ → ℕ → (ℕ → Bool) → Bool
some_above low zero so = false
some_above low (suc k) so = (ltb low (suc k) && so (suc k)) || some_above low k so

-- the comparison held after the first k voltages, with k more than had come at the last reset that named it; and it is sticky, or k is all of them
abbrev pub stands : Bool → (List ℤ → Bool) → ℕ → List ℤ → Bool
stands sticky compared since vs = some_above since (length vs) (λ k. compared (take k vs) && (sticky || eqb k (length vs)))

abbrev pub alarms_meant : Limits → List Came → Alarms
alarms_meant t r = record {
  sag = stands t.sticky.sag (sagging t) (since_reset (λ a. a.sag) 0 0 r) (voltages_of r);
  surge = stands t.sticky.surge (surging t) (since_reset (λ a. a.surge) 0 0 r) (voltages_of r);
}

-- ---- the same by a watch, one after the other

abbrev pub met_by : Watching → Came → Watching
met_by q (voltage v) = watched q v
met_by q (reset mask) = both (or_as_before (clearing q.watch mask) q.watch) q.volts

-- the kept sum is that of the last W, and the alarms are those meant
pub record Meant (t : Limits) (r : List Came) (q : Watching) : Type 0 where
  pub limits : q.watch.limits ≡ t
  pub sum : q.watch.sum ≡ last_squares t.w (voltages_of r)
  pub alarms : q.watch.alarms ≡ alarms_meant t r
