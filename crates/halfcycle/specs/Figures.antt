-- Figures for the alarms (document 02 has none): what stands after voltages and resets, worked out by hand. `proofs/Figures.antt` computes them, by the watch
-- and by the meaning.
use Rattle.std.specs.Prelude.{ℕ, ◌≡◌, true, false, pos, negsuc}
use mathlib.Core.List.{List, [], ◌∷◌, map, foldl}
use Rattle.alarm.specs.declared.Alarms.{Alarms}
use Rattle.alarm.specs.declared.Limits.{Limits}
use Rattle.alarm.specs.Masks.{no_alarms}
use Rattle.alarm.specs.Alarms.{both}
use Rattle.alarm.specs.Starting.{fresh_watch, no_volts}
use Rattle.halfcycle.specs.History.{Came, voltage, reset, alarms_meant, met_by}

pub record Figure : Type 0 where
  pub limits : Limits
  pub came : List Came
  pub alarms : Alarms

abbrev pub sag_only : Alarms
sag_only = record { sag = true; surge = false }

abbrev pub surge_only : Alarms
surge_only = record { sag = false; surge = true }

abbrev pub sag_and_surge : Alarms
sag_and_surge = record { sag = true; surge = true }

-- W, both levels, and the alarms that stay set
abbrev pub over : ℕ → ℕ → ℕ → Alarms → Limits
over w vsag vsurge sticky = record { w = w; vsag = vsag; vsurge = vsurge; sticky = sticky }

-- W 2, so that 5 as a level is compared with 50
abbrev pub at : ℕ → ℕ → Alarms → Limits
at = over 2

abbrev pub low : List Came
low = voltage (pos 3) ∷ voltage (pos 4) ∷ []

abbrev pub even : List Came
even = voltage (pos 5) ∷ voltage (pos 5) ∷ []

abbrev pub both_ways : List Came
both_ways = voltage (pos 3) ∷ voltage (pos 4) ∷ voltage (pos 9) ∷ []

abbrev pub sag_bit : Came
sag_bit = reset (pos 2097152)

abbrev pub surge_bit : Came
surge_bit = reset (pos 512)

abbrev pub both_bits : Came
both_bits = reset (pos 2097664)

abbrev pub figure : Limits → List Came → Alarms → Figure
figure t r a = record { limits = t; came = r; alarms = a }

abbrev pub figures : List Figure
figures =
    figure (at 5 0 no_alarms) (voltage (pos 3) ∷ []) no_alarms  -- fewer than W
    ∷ figure (at 5 0 no_alarms) low sag_only  -- 25 is less than 50
    ∷ figure (at 5 5 no_alarms) even no_alarms  -- 50 is neither less nor greater
    ∷ figure (at 5 5 no_alarms) (voltage (negsuc 4) ∷ voltage (negsuc 5) ∷ []) surge_only  -- -5 and -6: 61 is greater
    ∷ figure (at 0 0 no_alarms) (voltage (pos 0) ∷ voltage (pos 9) ∷ []) no_alarms  -- levels of 0 are off
    ∷ figure (at 5 0 no_alarms) (voltage (pos 3) ∷ voltage (pos 4) ∷ voltage (pos 9) ∷ []) no_alarms  -- 16 and 81: over, and not sticky
    ∷ figure (at 5 0 sag_only) (voltage (pos 3) ∷ voltage (pos 4) ∷ voltage (pos 9) ∷ []) sag_only  -- sticky
    ∷ figure (at 5 0 sag_only) (voltage (pos 3) ∷ voltage (pos 4) ∷ voltage (pos 9) ∷ sag_bit ∷ []) no_alarms  -- until a reset names it
    ∷ figure (at 5 0 sag_only) (voltage (pos 3) ∷ voltage (pos 4) ∷ surge_bit ∷ []) sag_only  -- that names the other
    ∷ figure (at 5 0 no_alarms) (voltage (pos 3) ∷ voltage (pos 4) ∷ sag_bit ∷ []) no_alarms  -- a reset clears one that is not sticky too
    ∷ figure (at 5 0 sag_only) (voltage (pos 3) ∷ voltage (pos 4) ∷ sag_bit ∷ voltage (pos 4) ∷ []) sag_only  -- and the next voltage sets it again: 32
    ∷ figure (at 5 0 sag_only) (voltage (pos 3) ∷ voltage (pos 4) ∷ reset (pos 2097153) ∷ []) sag_only  -- a refused reset clears nothing
    -- the same of surge, and that neither alarm goes by the other's bit
    ∷ figure (at 0 5 surge_only) (voltage (pos 5) ∷ voltage (pos 6) ∷ voltage (pos 3) ∷ []) surge_only  -- 61, and then 45: sticky
    ∷ figure (at 0 5 sag_only) (voltage (pos 5) ∷ voltage (pos 6) ∷ voltage (pos 3) ∷ []) no_alarms  -- sag's bit does not keep surge set
    ∷ figure (at 5 0 surge_only) both_ways no_alarms  -- nor surge's bit sag
    ∷ figure (at 0 5 surge_only) (voltage (pos 5) ∷ voltage (pos 6) ∷ sag_bit ∷ []) surge_only
    ∷ figure (at 0 5 surge_only) (voltage (pos 5) ∷ voltage (pos 6) ∷ surge_bit ∷ []) no_alarms
    ∷ figure (at 0 5 surge_only) (voltage (pos 5) ∷ voltage (pos 6) ∷ surge_bit ∷ voltage (pos 6) ∷ []) surge_only  -- 72
    ∷ figure (at 5 5 sag_and_surge) both_ways sag_and_surge  -- 25, and then 97: each by itself
    ∷ figure (at 5 5 sag_and_surge) (voltage (pos 3) ∷ voltage (pos 4) ∷ voltage (pos 9) ∷ sag_bit ∷ []) surge_only
    ∷ figure (at 5 5 sag_and_surge) (voltage (pos 3) ∷ voltage (pos 4) ∷ voltage (pos 9) ∷ both_bits ∷ []) no_alarms
    -- W 3, so that 4 as a level is compared with 48
    ∷ figure (over 3 4 0 no_alarms) (voltage (pos 3) ∷ voltage (pos 3) ∷ []) no_alarms  -- fewer than W
    ∷ figure (over 3 4 0 no_alarms) (voltage (pos 3) ∷ voltage (pos 3) ∷ voltage (pos 3) ∷ []) sag_only  -- 27
    ∷ figure (over 3 4 4 no_alarms) (voltage (pos 9) ∷ voltage (pos 4) ∷ voltage (pos 4) ∷ voltage (pos 4) ∷ []) no_alarms  -- the last three: 48
    ∷ figure (over 3 0 4 no_alarms) (voltage (pos 4) ∷ voltage (pos 4) ∷ voltage (pos 5) ∷ []) surge_only  -- 57
    ∷ []

pub record Figured : Type 0 where
  pub by_the_watch : map (λ (f : Figure). (foldl met_by (both (fresh_watch f.limits) no_volts) f.came).watch.alarms) figures ≡ map (λ (f : Figure). f.alarms) figures
  pub by_the_meaning : map (λ (f : Figure). alarms_meant f.limits f.came) figures ≡ map (λ (f : Figure). f.alarms) figures
