-- The start of the watch: W 1 to 512, VSAG and VSURGE 0 to 8,388,607, and a mask of alarms that stay set.
use Rattle.std.specs.Prelude.{Bool, cond, ◌&&◌, List, ℤ, pos, nat_abs, replicate}
use Rattle.std.specs.Int.Signed.{le_z}
use Rattle.steps.specs.Answers.{OrRefusal, refused, accepted}
use Rattle.alarm.specs.declared.Asked.{Asked}
use Rattle.alarm.specs.declared.Limits.{Limits}
use Rattle.alarm.specs.declared.Watch.{Watch}
use Rattle.alarm.specs.Masks.{only_alarms, no_alarms, named_by}

unfoldable pub numbers_ok : ℤ → ℤ → ℤ → Bool
numbers_ok w vsag vsurge =
    le_z (pos 1) w && le_z w (pos 512) && le_z (pos 0) vsag && le_z vsag (pos 8388607) && le_z (pos 0) vsurge && le_z vsurge (pos 8388607)

unfoldable pub asked_ok : Asked → Bool
asked_ok q = numbers_ok q.w q.vsag q.vsurge && only_alarms q.sticky

unfoldable pub limits_of : ℤ → ℤ → ℤ → ℤ → Limits
limits_of w vsag vsurge sticky = record { w = nat_abs w; vsag = nat_abs vsag; vsurge = nat_abs vsurge; sticky = named_by sticky }

abbrev pub limits_in : Asked → Limits
limits_in q = limits_of q.w q.vsag q.vsurge q.sticky

-- nothing seen, no alarm
abbrev pub fresh_watch : Limits → Watch
fresh_watch t = record { limits = t; at = 0; seen = 0; sum = 0; alarms = no_alarms }

-- W 1, both levels 0, no alarm stays set
abbrev pub lowest_limits : Limits
lowest_limits = record { w = 1; vsag = 0; vsurge = 0; sticky = no_alarms }

abbrev pub lowest_watch : Watch
lowest_watch = fresh_watch lowest_limits

-- 7: out of range
unfoldable pub starting : Asked → OrRefusal Watch
starting q = cond (asked_ok q) (accepted (fresh_watch (limits_in q))) (refused 7)

-- no voltage has come
abbrev pub no_volts : List ℤ
no_volts = replicate 512 (pos 0)
