-- VRMS, and IRMS of each source, of one closed interval, over the list of its samples: the largest number whose square is at most the mean square.
-- (An interval has at least one sample. Of none the mean squares are 0, since a division by 0 gives 0 here, and so are these registers.)
use Rattle.std.specs.Prelude.{ℕ, ◌-◌, ◌*◌, ◌/◌, List, length, ℤ}
use Rattle.number.specs.Sign.{square_of}
use Rattle.card.specs.declared.Card.{Card}
use Rattle.sample.specs.Fields.{irmsoffs, squelch}
use Rattle.source.specs.declared.Multipliers.{Multipliers}
use Rattle.source.specs.Sources.{Current, multipliers_of}
use Rattle.sample.specs.declared.Inputs.{Inputs}
use Rattle.sample.specs.Sample.{voltage}
use Rattle.sample.specs.Sums.{Sample}
use Rattle.rules.specs.Rms.{RootShown, RootSquelched}
use Rattle.interval.specs.declared.Closed.{Closed}
use Rattle.interval.specs.Close.{figure_of}
use Rattle.interval.specs.Whole.{Worked, worked, total}

-- the mean square of what f gives: sum / n, down
abbrev pub mean_square : {A : Type 0} → (A → ℤ) → List A → ℕ
mean_square {A} f ys = total (λ (y : A). square_of (f y)) ys / length ys

-- of this VRMS is the root: the mean square of the corrected voltages
abbrev pub voltage_square : Card → List Sample → ℕ
voltage_square c xs = mean_square (λ (x : Sample). voltage c x.0) xs

-- of this IRMS of a source is the root: the mean square of its currents, less IRMSOFFS squared and not below 0
abbrev pub current_square : Card → Multipliers → Inputs → List Sample → ℕ
current_square c m before xs = mean_square (λ (y : Worked). y.1) (worked c m before xs) - irmsoffs c * irmsoffs c

-- the interval z has these raw samples, worked by card c on a board with this configuration; `before` are the raw inputs before the first
pub record RmsOf (c : Card) (config : ℕ) (before : Inputs) (xs : List Sample) (z : Closed) : Type 0 where
  pub vrms : RootShown (voltage_square c xs) z.regs.vrms
  pub irms : (w : Current) → RootSquelched (current_square c (multipliers_of w config) before xs) (squelch c) (figure_of w 0 z)
