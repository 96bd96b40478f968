-- No load (document 02, A1): what a source shows of an interval where it is squelched, and P where it is not, over the list of the samples.
use Rattle.std.specs.Prelude.{◌≡◌, ℕ, ◌<◌, ◌≤◌, List, length, ℤ, pos, ◌*ℤ◌, unsigned_abs}
use Rattle.range.specs.Range.{capped}
use Rattle.root.specs.Root.{Root}
use Rattle.card.specs.declared.Card.{Card}
use Rattle.sample.specs.Fields.{squelch, poffs}
use Rattle.source.specs.declared.Multipliers.{Multipliers}
use Rattle.source.specs.Sources.{Current, multipliers_of}
use Rattle.sample.specs.declared.Inputs.{Inputs}
use Rattle.sample.specs.Sums.{Sample}
use Rattle.rules.specs.Rules.{active_of}
use Rattle.interval.specs.declared.Closed.{Closed}
use Rattle.interval.specs.Close.{results_of, figure_of}
use Rattle.interval.specs.Whole.{Worked, worked, balance, largest}
use Rattle.interval.specs.Rms.{current_square}

-- no load on source w: the interval z has no IRMS, no power, and nothing that is made of them; both directions' counts and remainders are as at
-- the close right before it, `old` (`none_closed` before the first)
pub record NoLoad (w : Current) (old z : Closed) : Type 0 where
  pub irms : figure_of w 0 z ≡ pos 0
  pub p : figure_of w 2 z ≡ pos 0
  pub s : figure_of w 3 z ≡ pos 0
  pub pf : figure_of w 4 z ≡ pos 0
  pub crest : figure_of w 5 z ≡ pos 0
  pub plus : (results_of w z.regs).plus ≡ (results_of w old.regs).plus
  pub minus : (results_of w z.regs).minus ≡ (results_of w old.regs).minus

-- P of a source that is not squelched, of the interval's raw samples: from the sum of the products of the corrected voltages and its currents
abbrev pub active_power : Card → Multipliers → Inputs → List Sample → ℤ
active_power c m before xs = active_of (balance (λ (y : Worked). y.0 *ℤ y.1) (worked c m before xs)) (length xs) (poffs c)

-- the interval z has these raw samples, worked by card c on a board with this configuration; `before` are the raw inputs before the first; `old`
-- closed right before z. Each source by itself is squelched if the root of its current, at most 8,388,607, is below SQUELCH, and else it is not;
-- that the root is 0 decides nothing, nor does the other source. (Every interval has such a root: `RmsOf` names it.) IPEAK stays in either case
pub record SquelchedBy (c : Card) (config : ℕ) (before : Inputs) (xs : List Sample) (old z : Closed) (w : Current) : Type 0 where
  pub below : (root : ℕ) → Root (current_square c (multipliers_of w config) before xs) root → capped root < squelch c → NoLoad w old z
  pub not_below : (root : ℕ) → Root (current_square c (multipliers_of w config) before xs) root → squelch c ≤ capped root →
      figure_of w 2 z ≡ active_power c (multipliers_of w config) before xs
  pub peak : figure_of w 1 z ≡ pos (capped (largest (λ (y : Worked). unsigned_abs y.1) (worked c (multipliers_of w config) before xs)))
