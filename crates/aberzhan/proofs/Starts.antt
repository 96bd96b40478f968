-- The ways through a start: the meter and the watch both take their settings, or all are at their lowest.
use Prim.Native.Nat.{ℕ}
use mathlib.Core.Path.{◌≡◌, ap, ap₂}
use mathlib.Core.Bool.{Bool, true, false, cond, ◌&&◌}
use mathlib.Core.List.{List}
use lib.IntN.{ℤ, nat_abs}
use Rattle.steps.specs.Answers.{OrRefusal, refused, accepted}
use Rattle.address.specs.declared.WordAddr.{WordAddr}
use Rattle.address.specs.Slots.{every_slot}
use Rattle.alarm.specs.declared.Asked.{Asked}
use Rattle.alarm.specs.declared.Watch.{Watch}
use Rattle.alarm.specs.Starting.{asked_ok, limits_in, fresh_watch, lowest_watch, starting as watchStart}
use Rattle.meter.specs.declared.Meter.{Meter}
use Rattle.meter.specs.Starting.{numbers_ok, config_ok, fresh_of, lowest_meter, starting as meterStart}
use Rattle.aberzhan.specs.declared.Module.{Module}
use Rattle.aberzhan.specs.Module.{refusal, done, fresh_module, settings_ok, start_of}
use Rattle.aberzhan.specs.Inside.{begun_of}

module _ (n b : ℤ) (track : List WordAddr) (asked : Asked) (config : ℤ) where
  abbrev metered : Meter
  metered = fresh_of (nat_abs n) (nat_abs b) track (nat_abs config)

  abbrev watched : Watch
  watched = fresh_watch (limits_in asked)

  abbrev taken : {A : Type 0} → Bool → A → OrRefusal A
  taken t a = cond t (accepted a) (refused 7)

  -- s: the numbers and the words are in range, t: what is asked of the watch, k: the configuration
  meter_refused_by : (s t k : Bool) (r : ℕ) → refused r ≡ taken (s && k) metered → refused r ≡ taken (s && t && k) (fresh_module metered watched)
  meter_refused_by true true true r e = absurd cc
  meter_refused_by true true false r e = let q : r ≡ 7 = cc in ap refused q
  meter_refused_by true false true r e = absurd cc
  meter_refused_by true false false r e = let q : r ≡ 7 = cc in ap refused q
  meter_refused_by false t k r e = let q : r ≡ 7 = cc in ap refused q

  watch_refused_by : (s t k : Bool) (r : ℕ) → refused r ≡ taken t watched → refused r ≡ taken (s && t && k) (fresh_module metered watched)
  watch_refused_by s true k r e = absurd cc
  watch_refused_by true false k r e = let q : r ≡ 7 = cc in ap refused q
  watch_refused_by false false k r e = let q : r ≡ 7 = cc in ap refused q

  both_by : (s t k : Bool) (m : Meter) (a : Watch) → accepted m ≡ taken (s && k) metered → accepted a ≡ taken t watched →
      accepted (fresh_module m a) ≡ taken (s && t && k) (fresh_module metered watched)
  both_by true true true m a e f =
      let p : m ≡ metered = cc in
      let q : a ≡ watched = cc in
      ap₂ (λ (m : Meter) (a : Watch). accepted (fresh_module m a)) p q
  both_by true true false m a e f = absurd cc
  both_by true false k m a e f = absurd cc
  both_by false t k m a e f = absurd cc

  pub meter_refused : (r : ℕ) → refused r ≡ meterStart n b track config → refused r ≡ begun_of n b track asked config
  unfolding meterStart settings_ok begun_of
  meter_refused r e = meter_refused_by (numbers_ok n b && every_slot track) (asked_ok asked) (config_ok config) r e

  pub watch_refused : (r : ℕ) → refused r ≡ watchStart asked → refused r ≡ begun_of n b track asked config
  unfolding watchStart settings_ok begun_of
  watch_refused r e = watch_refused_by (numbers_ok n b && every_slot track) (asked_ok asked) (config_ok config) r e

  pub both_taken : (m : Meter) (a : Watch) → accepted m ≡ meterStart n b track config → accepted a ≡ watchStart asked →
      accepted (fresh_module m a) ≡ begun_of n b track asked config
  unfolding meterStart watchStart settings_ok begun_of
  both_taken m a e f = both_by (numbers_ok n b && every_slot track) (asked_ok asked) (config_ok config) m a e f

  abbrev fresh : Module
  fresh = fresh_module metered watched

  abbrev lowest : Module
  lowest = fresh_module lowest_meter lowest_watch

  done_by : (t : Bool) (x : Module) → accepted x ≡ taken t fresh → done x ≡ cond t (done fresh) (refusal 7 lowest)
  done_by true x e = let q : x ≡ fresh = cc in ap done q
  done_by false x e = absurd cc

  refused_by : (t : Bool) (r : ℕ) (x : Module) → refused r ≡ taken t fresh → x ≡ lowest → refusal r x ≡ cond t (done fresh) (refusal 7 lowest)
  refused_by true r x e f = absurd cc
  refused_by false r x e f = let q : r ≡ 7 = cc in ap₂ (λ (r : ℕ) (x : Module). refusal r x) q f

  pub start_done : (x : Module) → accepted x ≡ begun_of n b track asked config → done x ≡ start_of n b track asked config
  unfolding begun_of start_of
  start_done x e = done_by (settings_ok n b track asked config) x e

  pub start_refused : (r : ℕ) (x : Module) → refused r ≡ begun_of n b track asked config → x ≡ lowest → refusal r x ≡ start_of n b track asked config
  unfolding begun_of start_of
  start_refused r x e f = refused_by (settings_ok n b track asked config) r x e f
