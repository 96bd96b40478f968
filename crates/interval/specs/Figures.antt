-- Figures to check by, as three tables: C1 to C12 of document 01, and ours for no load and for clipped samples (document 02, A1 and A2), for IA and
-- for IB alike. Each line has what the definitions give and, beside it, what it must be. Gain one and other fields 0 unless said.
use Rattle.std.specs.Prelude.{ℕ, ◌-◌, true, List, [], ◌∷◌, ◌++◌, map, length, replicate, ℤ, pos, negsuc, slice_set}
use Rattle.card.specs.declared.Card.{Card}
use Rattle.serial.specs.Serials.{no_serial}
use Rattle.energy.specs.declared.Energy.{Energy}
use Rattle.interval.specs.declared.Settings.{Settings}
use Rattle.interval.specs.declared.Closed.{Closed}
use Rattle.source.specs.Sources.{Current, IA, IB}
use Rattle.sample.specs.declared.Clips.{Clips}
use Rattle.sample.specs.Sample.{voltage, phased}
use Rattle.sample.specs.Sums.{Sample, added_all, no_sums}
use Rattle.energy.specs.Energies.{plus_after, no_energy}
use Rattle.address.specs.Slots.{off}
use Rattle.interval.specs.Close.{results_of, closed_of, none_closed, figure_of}

-- gain one and other fields 0
unfoldable pub plain : Card
plain = record { serial = no_serial; fields = pos 0 ∷ pos 0 ∷ pos 2097152 ∷ pos 2097152 ∷ pos 0 ∷ pos 0 ∷ pos 0 ∷ pos 0 ∷ [] }

-- a card with field k set to x
unfoldable pub having : ℕ → ℤ → Card → Card
having k x c = record { serial = c.serial; fields = slice_set c.fields (k - 1) x }

-- a sample: its voltage, and its current at one source's input
abbrev pub Pair : Type 0
Pair = ℤ × ℤ

-- with configuration 0x96 IA is S1 and IB is S3; at the other source's input the current is 7
unfoldable pub at_input : Current → Pair → Sample
at_input IA x = (x.0, record { s1 = x.1; s3 = pos 7 })
at_input IB x = (x.0, record { s1 = pos 7; s3 = x.1 })

-- a module's first interval, with these samples
unfoldable pub closing : Current → Card → List Pair → Closed
closing w c xs =
    let t : Settings = record { n = length xs; b = 1; track = replicate 6 off; config = 0x96 } in
    closed_of true t c (added_all c t.config no_sums (map (at_input w) xs)) (length xs) none_closed

unfoldable pub vrms : Current → Card → List Pair → ℤ
vrms w c xs = (closing w c xs).regs.vrms

-- figure k of the source: IRMS, IPEAK, P, S, PF, crest, from 0
unfoldable pub figure : Current → ℕ → Card → List Pair → ℤ
figure w k c xs = figure_of w k (closing w c xs)

unfoldable pub irms : Current → Card → List Pair → ℤ
irms w c xs = figure w 0 c xs

unfoldable pub watt : Current → Card → List Pair → ℤ
watt w c xs = figure w 2 c xs

-- samples of the current alone, and of the voltage alone
unfoldable pub currents : List ℤ → List Pair
currents xs = map (λ (i : ℤ). (pos 0, i)) xs

unfoldable pub volts : List ℤ → List Pair
volts xs = map (λ (v : ℤ). (v, pos 0)) xs

-- both samples -8,388,608
unfoldable pub both_lowest : List Pair
both_lowest = (negsuc 8388607, negsuc 8388607) ∷ []

-- P -5 before offset: voltage 4,194,304 is a half, times -10
unfoldable pub minus_five : List Pair
minus_five = (pos 4194304, negsuc 9) ∷ []

-- bucket 100, P 30, 4 samples, once and once more
unfoldable pub once : Energy
once = plus_after (pos 30) 4 100 no_energy

unfoldable pub twice : Energy
twice = plus_after (pos 30) 4 100 once

-- one bucket more than the count can show
unfoldable pub beyond : Energy
beyond = plus_after (pos 100) 1 100 (record { count = 16777215; remainder = 0 })

unfoldable pub figures : Current → List (ℤ × ℤ)
figures w =
    (voltage (having 3 (pos 1048576) plain) (negsuc 0), negsuc 0)  -- C1
    ∷ (voltage (having 3 (pos 4194304) plain) (pos 8388607), pos 8388607)  -- C2
    ∷ (phased (having 5 (pos 2048) plain) (negsuc 0) (pos 0), negsuc 0)  -- C3
    ∷ (vrms w plain both_lowest, pos 8388607)  -- C4: VRMS, P, S, PF
    ∷ (figure w 2 plain both_lowest, pos 8388607)
    ∷ (figure w 3 plain both_lowest, pos 8388606)
    ∷ (figure w 4 plain both_lowest, pos 4194304)
    ∷ (vrms w plain (volts (pos 3 ∷ pos 4 ∷ [])), pos 3)  -- C5
    ∷ (watt w plain ((pos 4194304, negsuc 2) ∷ []), negsuc 0)  -- C6
    ∷ (irms w (having 6 (pos 3) plain) (currents (pos 5 ∷ [])), pos 4)  -- C7
    ∷ (irms w (having 6 (pos 6) plain) (currents (pos 5 ∷ [])), pos 0)
    ∷ (irms w (having 7 (pos 4) (having 6 (pos 3) plain)) (currents (pos 5 ∷ [])), pos 4)  -- C8
    ∷ (irms w (having 7 (pos 5) (having 6 (pos 3) plain)) (currents (pos 5 ∷ [])), pos 0)
    ∷ (irms w plain (currents (pos 0 ∷ pos 0 ∷ pos 0 ∷ pos 8 ∷ [])), pos 4)  -- C9: IRMS, crest
    ∷ (figure w 5 plain (currents (pos 0 ∷ pos 0 ∷ pos 0 ∷ pos 8 ∷ [])), pos 131072)
    ∷ (watt w plain minus_five, negsuc 4)  -- C10: before offset, and with POFFS 3 and 5
    ∷ (watt w (having 8 (pos 3) plain) minus_five, negsuc 1)
    ∷ (watt w (having 8 (pos 5) plain) minus_five, pos 0)
    ∷ (pos once.count, pos 1)  -- C11
    ∷ (pos once.remainder, pos 20)
    ∷ (pos twice.count, pos 2)
    ∷ (pos twice.remainder, pos 40)
    ∷ (pos beyond.count, pos 0)  -- C12
    ∷ []

-- VRMS; IRMS, IPEAK, P, S, PF and crest; the counts of energy taken in and given back, with B 1
unfoldable pub shown_row : Current → Card → List Pair → List ℤ
shown_row w c xs =
    let r = (closing w c xs).regs in
    let s = results_of w r in
    r.vrms ∷ (s.figures ++ (pos s.plus.count ∷ pos s.minus.count ∷ []))

-- one sample, at the highest voltage
unfoldable pub at_full : ℤ → List Pair
at_full i = (pos 8388607, i) ∷ []

-- currents 5 and -5, with voltages 8,388,607 and -8,388,607
unfoldable pub fives : List Pair
fives = (pos 8388607, pos 5) ∷ (negsuc 8388606, negsuc 4) ∷ []

-- what a squelched interval shows: VRMS 8,388,607 and this IPEAK, and nothing else
unfoldable pub only_peak : ℕ → List ℤ
only_peak k = pos 8388607 ∷ pos 0 ∷ pos k ∷ replicate 6 (pos 0)

unfoldable pub no_load_figures : Current → List (List ℤ × List ℤ)
no_load_figures w =
    -- SQUELCH one above the root: squelched; at the root: not; in both directions
    (shown_row w (having 7 (pos 101) plain) (at_full (pos 100)), only_peak 100)
    ∷ (
      shown_row w (having 7 (pos 100) plain) (at_full (pos 100)),
      pos 8388607 ∷ pos 100 ∷ pos 100 ∷ pos 99 ∷ pos 99 ∷ pos 4194304 ∷ pos 65536 ∷ pos 99 ∷ pos 0 ∷ [],
    )
    ∷ (shown_row w (having 7 (pos 101) plain) (at_full (negsuc 99)), only_peak 100)
    ∷ (
      shown_row w (having 7 (pos 100) plain) (at_full (negsuc 99)),
      pos 8388607 ∷ pos 100 ∷ pos 100 ∷ negsuc 98 ∷ pos 99 ∷ negsuc 4194303 ∷ pos 65536 ∷ pos 0 ∷ pos 99 ∷ [],
    )
    -- no current and SQUELCH 0
    ∷ (shown_row w plain (at_full (pos 0)), only_peak 0)
    -- root 0 and SQUELCH 0: P stays, and 4 times 2 is counted; SQUELCH 1: squelched
    ∷ (shown_row w (having 6 (pos 6) plain) fives, pos 8388607 ∷ pos 0 ∷ pos 5 ∷ pos 4 ∷ pos 0 ∷ pos 0 ∷ pos 0 ∷ pos 8 ∷ pos 0 ∷ [])
    ∷ (shown_row w (having 7 (pos 1) (having 6 (pos 6) plain)) fives, only_peak 5)
    ∷ []

-- how many were clipped of the voltages, of the source's own input and of the other
abbrev pub own_first : Current → Clips → List ℕ
own_first IA k = k.v ∷ k.s1 ∷ k.s3 ∷ []
own_first IB k = k.v ∷ k.s3 ∷ k.s1 ∷ []

unfoldable pub clipped_in : Current → Card → List Pair → List ℕ
clipped_in w c xs = own_first w (closing w c xs).clips

-- both gains two
unfoldable pub doubled : Card
doubled = having 4 (pos 4194304) (having 3 (pos 4194304) plain)

-- both gains one and a half
unfoldable pub by_half_more : Card
by_half_more = having 4 (pos 3145728) (having 3 (pos 3145728) plain)

unfoldable pub clip_figures : Current → List (List ℕ × List ℕ)
clip_figures w =
    -- a value that is an end of the range is not clipped
    (clipped_in w plain ((pos 8388607, negsuc 8388607) ∷ (negsuc 8388607, pos 8388607) ∷ []), 0 ∷ 0 ∷ 0 ∷ [])
    -- an offset of one brings it beyond: above with -1, below with 1
    ∷ (clipped_in w (having 1 (negsuc 0) plain) ((pos 8388607, pos 8388607) ∷ (pos 8388606, pos 0) ∷ []), 1 ∷ 0 ∷ 0 ∷ [])
    ∷ (clipped_in w (having 1 (pos 1) plain) ((negsuc 8388607, negsuc 8388607) ∷ (negsuc 8388606, pos 0) ∷ []), 1 ∷ 0 ∷ 0 ∷ [])
    ∷ (clipped_in w (having 2 (negsuc 0) plain) ((pos 8388607, pos 8388607) ∷ (pos 0, pos 8388606) ∷ []), 0 ∷ 1 ∷ 0 ∷ [])
    ∷ (clipped_in w (having 2 (pos 1) plain) ((negsuc 8388607, negsuc 8388607) ∷ (pos 0, negsuc 8388606) ∷ []), 0 ∷ 1 ∷ 0 ∷ [])
    -- gain two for the voltage alone, and for the current alone
    ∷ (clipped_in w (having 3 (pos 4194304) plain) ((pos 4194304, pos 4194304) ∷ []), 1 ∷ 0 ∷ 0 ∷ [])
    ∷ (clipped_in w (having 4 (pos 4194304) plain) ((pos 4194304, pos 4194304) ∷ []), 0 ∷ 1 ∷ 0 ∷ [])
    -- for both: 8,388,608 and -8,388,610 are beyond, 8,388,606 and -8,388,608 are not
    ∷ (
      clipped_in w doubled ((pos 4194304, pos 4194303) ∷ (negsuc 4194304, negsuc 4194303) ∷ (pos 4194303, negsuc 4194304) ∷ []),
      2 ∷ 1 ∷ 0 ∷ [],
    )
    -- the value is rounded down first: 8,388,607.5 and -8,388,607.5 become ends of the range, -8,388,609 is beyond
    ∷ (clipped_in w by_half_more ((pos 5592405, negsuc 5592404) ∷ (negsuc 5592404, negsuc 5592405) ∷ []), 0 ∷ 1 ∷ 0 ∷ [])
    -- gain one and a quarter: -8,388,608.75 becomes -8,388,609, which is beyond
    ∷ (clipped_in w (having 4 (pos 2621440) plain) ((pos 0, negsuc 6710886) ∷ (pos 0, negsuc 6710885) ∷ []), 0 ∷ 1 ∷ 0 ∷ [])
    -- the previous current is not counted again, and a module's first sample, which is its own previous one, counts once
    ∷ (clipped_in w (having 5 (pos 2048) doubled) ((pos 0, pos 8388607) ∷ (pos 0, pos 0) ∷ []), 0 ∷ 1 ∷ 0 ∷ [])
    ∷ (clipped_in w (having 5 (pos 2048) doubled) ((pos 0, pos 0) ∷ (pos 0, negsuc 8388607) ∷ []), 0 ∷ 1 ∷ 0 ∷ [])
    -- every one
    ∷ (clipped_in w doubled (replicate 5 (negsuc 8388607, pos 8388607)), 5 ∷ 5 ∷ 0 ∷ [])
    ∷ []
