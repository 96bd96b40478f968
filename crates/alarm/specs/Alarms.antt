-- The last W corrected voltages, the sum of their squares, and the two alarms, sample by sample; and a reset.
use Rattle.std.specs.Prelude.{ℕ, suc, ◌+◌, ◌-◌, ◌*◌, min, Bool, not, cond, ◌&&◌, ◌||◌, List, eqb, leb, ltb, ℤ, pos, get_or, set}
use Rattle.steps.specs.Answers.{OrRefusal, refused, accepted}
use Rattle.number.specs.Sign.{square_of}
use Rattle.card.specs.declared.Card.{Card}
use Rattle.sample.specs.Sample.{voltage}
use Rattle.alarm.specs.declared.Alarms.{Alarms}
use Rattle.alarm.specs.declared.Limits.{Limits}
use Rattle.alarm.specs.declared.Watch.{Watch}
use Rattle.alarm.specs.Masks.{only_alarms, named_by}

-- the watch, and the places of the voltages: of 512 the first W are used, in turn
pub record Watching : Type 0 where
  pub watch : Watch
  pub volts : List ℤ

abbrev pub both : Watch → List ℤ → Watching
both a volts = record { watch = a; volts = volts }

-- ---- the window

-- the place that comes behind `at`, of w places used in turn
unfoldable pub next_place : ℕ → ℕ → ℕ
next_place w at = cond (eqb (suc at) w) 0 (suc at)

-- the sum is kept up from the newest and the oldest alone
unfoldable pub slid_sum : ℕ → ℤ → ℤ → ℕ
slid_sum sum newest oldest = sum + square_of newest - square_of oldest

-- ---- the alarms

-- sag: once W voltages were seen, and where VSAG is not 0, the sum of the last W squares is less than W times VSAG squared
unfoldable pub sags : Limits → ℕ → ℕ → Bool
sags t seen sum = leb t.w seen && ltb 0 t.vsag && ltb sum (t.w * (t.vsag * t.vsag))

-- surge: likewise, it is greater than W times VSURGE squared
unfoldable pub surges : Limits → ℕ → ℕ → Bool
surges t seen sum = leb t.w seen && ltb 0 t.vsurge && ltb (t.w * (t.vsurge * t.vsurge)) sum

-- a sticky alarm, once set, stays; any other shows the comparison after the last sample
unfoldable pub shown : Bool → Bool → Bool → Bool
shown sticky was compared = (sticky && was) || compared

unfoldable pub alarms_after : Limits → ℕ → ℕ → Alarms → Alarms
alarms_after t seen sum was = record {
  sag = shown t.sticky.sag was.sag (sags t seen sum);
  surge = shown t.sticky.surge was.surge (surges t seen sum);
}

-- one corrected voltage more: it takes the place of the oldest
unfoldable pub watched : Watching → ℤ → Watching
watched q v =
    let a = q.watch in
    let t = a.limits in
    let seen = min t.w (suc a.seen) in
    let sum = slid_sum a.sum v (get_or q.volts a.at (pos 0)) in
    record {
      watch = record { limits = t; at = next_place t.w a.at; seen = seen; sum = sum; alarms = alarms_after t seen sum a.alarms };
      volts = set q.volts a.at v;
    }

-- one raw voltage more, corrected with the card that works it
unfoldable pub seen_with : Card → Watching → ℤ → Watching
seen_with c q raw = watched q (voltage c raw)

-- ---- a reset

-- the named alarms are cleared, sticky or not, and nothing else changes
unfoldable pub cleared_of : Alarms → Watch → Watch
cleared_of named a = record {
  limits = a.limits;
  at = a.at;
  seen = a.seen;
  sum = a.sum;
  alarms = record { sag = a.alarms.sag && not named.sag; surge = a.alarms.surge && not named.surge };
}

-- 12: another bit
unfoldable pub clearing : Watch → ℤ → OrRefusal Watch
clearing a mask = cond (only_alarms mask) (accepted (cleared_of (named_by mask) a)) (refused 12)
