-- The close of an interval: what is shown afterwards, of the card, the sums, the number n of samples, and what was shown before.
use Rattle.std.specs.Prelude.{ℕ, ◌+◌, ◌%◌, ◌^◌, Bool, List, ◌∷◌, replicate, ℤ, pos, slice_index_or}
use Rattle.card.specs.declared.Card.{Card}
use Rattle.serial.specs.Serials.{no_serial}
use Rattle.source.specs.Sources.{Current, IA, IB}
use Rattle.sample.specs.declared.Flow.{Flow}
use Rattle.sample.specs.declared.Sums.{Sums}
use Rattle.sample.specs.Sums.{no_clips}
use Rattle.interval.specs.declared.Settings.{Settings}
use Rattle.interval.specs.declared.Source.{Source}
use Rattle.interval.specs.declared.Registers.{Registers}
use Rattle.interval.specs.declared.Closed.{Closed}
use Rattle.rules.specs.Source.{vrms_of, figures_of, watt_of}
use Rattle.energy.specs.declared.Energy.{Energy}
use Rattle.energy.specs.Energies.{plus_after, minus_after, no_energy}
use Rattle.tracking.specs.Tracking.{followed}

-- a source with another record of one direction's energy
unfoldable pub with_plus : Source → Energy → Source
with_plus s e = record { figures = s.figures; plus = e; minus = s.minus }

unfoldable pub with_minus : Source → Energy → Source
with_minus s e = record { figures = s.figures; plus = s.plus; minus = e }

-- one current source: its six figures, and both directions' energy; v is VRMS, b the bucket
unfoldable pub source_after : Card → ℕ → Flow → ℕ → ℕ → Source → Source
source_after c v f n b old = record {
  figures = figures_of c v f n;
  plus = plus_after (watt_of c f n) n b old.plus;
  minus = minus_after (watt_of c f n) n b old.minus;
}

-- the seven that can be tracked, in the table's order: VRMS, and the figures of IA
unfoldable pub seven_of : ℤ → List ℤ → List ℤ
seven_of v figures = v ∷ figures

-- all registers, each source's of its own sums and of what it showed before; `first` at the module's first close
unfoldable pub registers_after : Bool → Settings → Card → Sums → ℕ → Registers → Registers
registers_after first t c s n old =
    let v = vrms_of s.vv n in
    let a = source_after c v s.a n t.b old.a in
    let b = source_after c v s.b n t.b old.b in
    record { vrms = pos v; a = a; b = b; ends = followed first t.track (seven_of (pos v) a.figures) old.ends }

-- the results of a source
abbrev pub results_of : Current → Registers → Source
results_of IA r = r.a
results_of IB r = r.b

-- after 4,294,967,295 comes 0
unfoldable pub number_after : ℕ → ℕ
number_after n = (n + 1) % 2 ^ 32

-- the closed interval: its number, the serial of its card, how many of its samples were clipped, and the registers as they now stand
unfoldable pub closed_of : Bool → Settings → Card → Sums → ℕ → Closed → Closed
closed_of first t c s n old = record {
  number = number_after old.number;
  serial = c.serial;
  clips = s.clips;
  regs = registers_after first t c s n old.regs;
}

-- before any interval has closed: number 0, so that the first is 1; counts and remainders 0
abbrev pub no_source : Source
no_source = record { figures = replicate 6 (pos 0); plus = no_energy; minus = no_energy }

abbrev pub no_registers : Registers
no_registers = record { vrms = pos 0; a = no_source; b = no_source; ends = record { low = replicate 6 (pos 0); high = replicate 6 (pos 0) } }

abbrev pub none_closed : Closed
none_closed = record { number = 0; serial = no_serial; clips = no_clips; regs = no_registers }

-- figure k of a source, from 0: IRMS, IPEAK, P, S, PF, crest
abbrev pub figure_of : Current → ℕ → Closed → ℤ
figure_of w k z = slice_index_or (results_of w z.regs).figures k (pos 0)
