-- The energy rule over the whole history of closes.
use Rattle.std.specs.Prelude.{◌≡◌, ℤ}
use mathlib.Core.List.{List, [], ◌∷◌, foldl}
use Rattle.energy.specs.declared.Energy.{Energy}
use Rattle.interval.specs.declared.Settings.{Settings}
use Rattle.interval.specs.declared.Closed.{Closed}
use Rattle.energy.specs.Energies.{plus_after, minus_after, no_energy}
use Rattle.source.specs.Sources.{Current}
use Rattle.interval.specs.Close.{results_of, none_closed, figure_of}
use Rattle.meter.specs.declared.Work.{Work}
use Rattle.demands.specs.Program.{Program, settings, closes}

-- P of a closed interval, WATT_A or WATT_B: the third of the source's figures
abbrev pub power_of : Current → Closed → ℤ
power_of w z = figure_of w 2 z

-- for a module with these settings, and for each source
module _ (t : Settings) (w : Current) where
  -- each direction's count and remainder after one more closed interval
  abbrev pub plus_with : Energy → Closed → Energy
  plus_with e z = plus_after (power_of w z) t.n t.b e

  abbrev pub minus_with : Energy → Closed → Energy
  minus_with e z = minus_after (power_of w z) t.n t.b e

  -- after all closed intervals, from zero
  abbrev pub plus_over : List Closed → Energy
  plus_over h = foldl plus_with no_energy h

  abbrev pub minus_over : List Closed → Energy
  minus_over h = foldl minus_with no_energy h

  -- so it is in the registers of each closed interval: e and f are the source's two directions before the first
  abbrev pub EachCounted : Energy → Energy → List Closed → Type 0
  EachCounted e f [] = Unit {0}
  EachCounted e f (z ∷ h) =
      let s = results_of w z.regs in
      (s.plus ≡ plus_with e z) × (s.minus ≡ minus_with f z) × EachCounted s.plus s.minus h

-- and in the module, which has closed the intervals h: four records, two of each source
pub record Counted (t : Settings) (u : Work) (h : List Closed) : Type 0 where
  pub settings_are : u.settings ≡ t
  pub plus : (w : Current) → (results_of w u.last.regs).plus ≡ plus_over t w h
  pub minus : (w : Current) → (results_of w u.last.regs).minus ≡ minus_over t w h
  pub last : u.last ≡ foldl (λ (y z : Closed). z) none_closed h  -- its last close is the last of them

pub record ProgramEnergy (p : Program) : Type 0 where
  pub at_end : Counted (settings p) p.log.end.meter.work (closes p)
  pub in_each : (w : Current) → EachCounted (settings p) w no_energy no_energy (closes p)

abbrev pub EnergyHistory : Type 0
EnergyHistory = (p : Program) → ProgramEnergy p
