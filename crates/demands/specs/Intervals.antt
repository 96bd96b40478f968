-- Each closed interval is what documents 01 and 02 (A1, A2, A5) work out from its card, the board's configuration, its own N samples and the raw
-- inputs before its first.
use Rattle.std.specs.Prelude.{ℕ, zero, suc, ◌/◌, ◌≡◌, Bool, true, false, List, [], ◌∷◌, map, pos, length, take, drop}
use Rattle.std.proofs.Math.Option.{Option, none, some}
use Rattle.steps.specs.Shorter.{struck}
use Rattle.steps.specs.OneCard.{Tagged, Interval, tagged, samples_fed}
use Rattle.interval.specs.declared.Settings.{Settings}
use Rattle.interval.specs.declared.Closed.{Closed}
use Rattle.sample.specs.declared.Inputs.{Inputs}
use Rattle.sample.specs.Sums.{Sample}
use Rattle.interval.specs.Whole.{last_raw, interval_of}
use Rattle.interval.specs.Close.{none_closed}
use Rattle.meter.specs.Core.{core}
use Rattle.meter.specs.Starting.{no_card}
use Rattle.calls.specs.Ports.{ports, aberzhan}
use Rattle.calls.specs.Calls.{state_of}
use Rattle.demands.specs.Program.{Program, first, settings, steps, ran, closes}

-- ---- which samples make an interval, and which card

-- the accepted samples in their order, each with the card committed last before it
abbrev pub samples_with_cards : Program → List (Tagged core)
samples_with_cards p = tagged core ports none (ran p).history

-- k pieces of n, one after another
abbrev pub pieces : {A : Type 0} → ℕ → ℕ → List A → List (List A)
pieces n zero ts = []
pieces n (suc k) ts = take n ts ∷ pieces n k (drop n ts)

-- an interval has the card of its first sample (there is none without a sample)
abbrev pub interval_from : List (Tagged core) → Interval core
interval_from [] = record { card = no_card; samples = [] }
interval_from (t ∷ ts) = record { card = t.0; samples = t.1 ∷ map (λ (t : Tagged core). t.1) ts }

-- as many whole intervals of n samples as there are; what is left belongs to the running one
abbrev pub cut_by : ℕ → List (Tagged core) → List (Interval core)
cut_by n ts = map interval_from (pieces n (length ts / n) ts)

abbrev pub intervals_of : Program → List (Interval core)
intervals_of p = cut_by (settings p).n (samples_with_cards p)

abbrev pub EachHas : ℕ → List (Interval core) → Type 0
EachHas n [] = Unit {0}
EachHas n (i ∷ is) = (length i.samples ≡ n) × EachHas n is

-- ---- what they come to

-- the raw inputs before an interval's first sample; for the module's first sample they are those of that sample itself
abbrev pub raw_before : Option Inputs → List Sample → Inputs
raw_before (some r) xs = r
raw_before none [] = record { s1 = pos 0; s3 = pos 0 }
raw_before none (x ∷ xs) = x.1

-- the intervals, worked one after another: r are the raw inputs before the first of them, if any were seen; `old` closed before them
abbrev pub wholes : Settings → Bool → Option Inputs → Closed → List (Interval core) → List Closed
wholes t fst r old [] = []
wholes t fst r old (i ∷ is) =
    let before = raw_before r i.samples in
    let z = interval_of fst t i.card before i.samples old in
    z ∷ wholes t false (some (last_raw before i.samples)) z is

pub record ProgramIntervals (p : Program) : Type 0 where
  pub all_samples : map (λ (t : Tagged core). t.1) (samples_with_cards p) ≡ samples_fed core ports (struck aberzhan (steps p) (state_of (first p)))
  pub each_has_n : EachHas (settings p).n (intervals_of p)
  pub whole : closes p ≡ wholes (settings p) true none none_closed (intervals_of p)

abbrev pub WholeIntervals : Type 0
WholeIntervals = (p : Program) → ProgramIntervals p
