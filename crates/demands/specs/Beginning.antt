-- What a start returns: the settings asked for, or 7 and the lowest; and in either case a fresh module.
use Rattle.std.specs.Prelude.{◌≡◌, Bool, false, cond, nat_abs, replicate}
use Rattle.steps.specs.Answers.{refused, accepted, answer_of}
use Rattle.address.specs.Slots.{off}
use Rattle.alarm.specs.declared.Asked.{Asked}
use Rattle.alarm.specs.declared.Limits.{Limits}
use Rattle.alarm.specs.Masks.{no_alarms, named_by}
use Rattle.alarm.specs.Starting.{no_volts}
use Rattle.source.specs.Sources.{Current}
use Rattle.energy.specs.Energies.{no_energy}
use Rattle.interval.specs.Close.{results_of}
use Rattle.interval.specs.declared.Settings.{Settings}
use Rattle.aberzhan.specs.declared.Module.{Module}
use Rattle.aberzhan.specs.Module.{settings_ok}
use Rattle.demands.specs.Program.{Program, first, settings, limits}

-- no card, no interval, counts and remainders 0; no voltage seen, no alarm; no port is open, nothing is held
pub record Fresh (z : Module) : Type 0 where
  pub none_waits : z.meter.waits ≡ false
  pub none_in_force : z.meter.forced ≡ false
  pub no_sample : z.meter.taken ≡ 0
  pub none_has_closed : z.meter.work.any ≡ false
  pub plus : (w : Current) → (results_of w z.meter.work.last.regs).plus ≡ no_energy
  pub minus : (w : Current) → (results_of w z.meter.work.last.regs).minus ≡ no_energy
  pub none_seen : z.watch.seen ≡ 0
  pub no_sum : z.watch.sum ≡ 0
  pub no_volts_yet : z.volts ≡ no_volts
  pub no_alarm : z.watch.alarms ≡ no_alarms
  pub port0_shut : z.desk0.opened ≡ false
  pub port1_shut : z.desk1.opened ≡ false
  pub port0_unheld : z.hold0.any ≡ false
  pub port1_unheld : z.hold1.any ≡ false

-- N 1, B 1, all slots off, configuration 0
abbrev pub lowest_settings : Settings
lowest_settings = record { n = 1; b = 1; track = replicate 6 off; config = 0 }

-- W, VSAG, VSURGE and the sticky mask that were asked for
abbrev pub asked_limits : Asked → Limits
asked_limits t = record { w = nat_abs t.w; vsag = nat_abs t.vsag; vsurge = nat_abs t.vsurge; sticky = named_by t.sticky }

-- of a refused start: W 1, both levels 0, no mask
abbrev pub refused_limits : Limits
refused_limits = record { w = 1; vsag = 0; vsurge = 0; sticky = no_alarms }

abbrev pub all_in_range : Program → Bool
all_in_range p = settings_ok p.n p.b p.track p.asked p.config

abbrev pub asked_settings : Program → Settings
asked_settings p = record { n = nat_abs p.n; b = nat_abs p.b; track = p.track; config = nat_abs p.config }

pub record Begins (p : Program) : Type 0 where
  pub answer : answer_of p.started.answer ≡ cond (all_in_range p) (accepted tt) (refused 7)
  pub settings_are : settings p ≡ cond (all_in_range p) (asked_settings p) lowest_settings
  pub limits_are : limits p ≡ cond (all_in_range p) (asked_limits p.asked) refused_limits
  pub fresh : Fresh (first p)

abbrev pub EveryStart : Type 0
EveryStart = (p : Program) → Begins p
