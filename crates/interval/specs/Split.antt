-- Figures of split-phase boards (document 02, A5): whole intervals of one or two samples, with both sources. Each line has what the definitions give
-- and, beside it, what it must be, worked out apart from them. Gain one and other fields 0 unless said.
use Rattle.std.specs.Prelude.{ℕ, true, List, [], ◌∷◌, ◌++◌, length, replicate, ℤ, pos, negsuc}
use Rattle.card.specs.declared.Card.{Card}
use Rattle.address.specs.Slots.{off}
use Rattle.sample.specs.Sums.{Sample, added_all, no_sums}
use Rattle.interval.specs.declared.Settings.{Settings}
use Rattle.interval.specs.declared.Source.{Source}
use Rattle.interval.specs.Close.{closed_of, none_closed}
use Rattle.interval.specs.Figures.{plain, having}

-- a sample's raw voltage, S1 and S3
abbrev pub raw : ℤ → ℤ → ℤ → Sample
raw v s1 s3 = (v, record { s1 = s1; s3 = s3 })

-- a source's six figures, and its counts of energy taken in and given back
abbrev pub eight : Source → List ℤ
eight s = s.figures ++ (pos s.plus.count ∷ pos s.minus.count ∷ [])

-- a module's first interval with this configuration and B 1: VRMS; IA's eight, IB's eight; how many of V, S1 and S3 were clipped
unfoldable pub split : Card → ℕ → List Sample → List ℤ
split c config xs =
    let t : Settings = record { n = length xs; b = 1; track = replicate 6 off; config = config } in
    let z = closed_of true t c (added_all c config no_sums xs) (length xs) none_closed in
    z.regs.vrms ∷ (eight z.regs.a ++ (eight z.regs.b ++ (pos z.clips.v ∷ pos z.clips.s1 ∷ pos z.clips.s3 ∷ [])))

unfoldable pub split_figures : List (List ℤ × List ℤ)
split_figures =
    -- IA is S1 and IB is S3: 100 taken in and 50 given back, each counted in its own record
    (
      split plain 0x96 (raw (pos 8388607) (pos 100) (negsuc 49) ∷ []),
      pos 8388607
          ∷ pos 100 ∷ pos 100 ∷ pos 99 ∷ pos 99 ∷ pos 4194304 ∷ pos 65536 ∷ pos 99 ∷ pos 0
          ∷ pos 50 ∷ pos 50 ∷ negsuc 48 ∷ pos 49 ∷ negsuc 4194303 ∷ pos 65536 ∷ pos 0 ∷ pos 49
          ∷ pos 0 ∷ pos 0 ∷ pos 0 ∷ [],
    )
    -- SQUELCH 60 squelches IB alone, and where the inputs are exchanged IA alone
    ∷ (
      split (having 7 (pos 60) plain) 0x96 (raw (pos 8388607) (pos 100) (negsuc 49) ∷ []),
      pos 8388607
          ∷ pos 100 ∷ pos 100 ∷ pos 99 ∷ pos 99 ∷ pos 4194304 ∷ pos 65536 ∷ pos 99 ∷ pos 0
          ∷ pos 0 ∷ pos 50 ∷ pos 0 ∷ pos 0 ∷ pos 0 ∷ pos 0 ∷ pos 0 ∷ pos 0
          ∷ pos 0 ∷ pos 0 ∷ pos 0 ∷ [],
    )
    ∷ (
      split (having 7 (pos 60) plain) 0x96 (raw (pos 8388607) (negsuc 49) (pos 100) ∷ []),
      pos 8388607
          ∷ pos 0 ∷ pos 50 ∷ pos 0 ∷ pos 0 ∷ pos 0 ∷ pos 0 ∷ pos 0 ∷ pos 0
          ∷ pos 100 ∷ pos 100 ∷ pos 99 ∷ pos 99 ∷ pos 4194304 ∷ pos 65536 ∷ pos 99 ∷ pos 0
          ∷ pos 0 ∷ pos 0 ∷ pos 0 ∷ [],
    )
    -- IRMSOFFS and POFFS lessen each by itself
    ∷ (
      split (having 8 (pos 45) (having 6 (pos 30) plain)) 0x96 (raw (pos 8388607) (pos 100) (negsuc 49) ∷ []),
      pos 8388607
          ∷ pos 95 ∷ pos 100 ∷ pos 54 ∷ pos 94 ∷ pos 2409493 ∷ pos 68985 ∷ pos 54 ∷ pos 0
          ∷ pos 40 ∷ pos 50 ∷ negsuc 3 ∷ pos 39 ∷ negsuc 430184 ∷ pos 81920 ∷ pos 0 ∷ pos 4
          ∷ pos 0 ∷ pos 0 ∷ pos 0 ∷ [],
    )
    -- IA is half of S1 - S3, IB half of S1 + S3: 75 and 25, 76 and 25 from 76.5 and 25.5
    ∷ (
      split plain 0xA2 (raw (pos 8388607) (pos 100) (negsuc 49) ∷ raw (pos 8388607) (pos 102) (negsuc 50) ∷ []),
      pos 8388607
          ∷ pos 75 ∷ pos 76 ∷ pos 75 ∷ pos 74 ∷ pos 4194304 ∷ pos 66409 ∷ pos 150 ∷ pos 0
          ∷ pos 25 ∷ pos 25 ∷ pos 24 ∷ pos 24 ∷ pos 4194304 ∷ pos 65536 ∷ pos 48 ∷ pos 0
          ∷ pos 0 ∷ pos 0 ∷ pos 0 ∷ [],
    )
    -- rounded down below 0 too: half of -1 and of -101
    ∷ (
      split plain 0xA2 (raw (pos 8388607) (negsuc 50) (negsuc 49) ∷ raw (pos 8388607) (negsuc 50) (pos 50) ∷ []),
      pos 8388607
          ∷ pos 36 ∷ pos 51 ∷ negsuc 24 ∷ pos 35 ∷ negsuc 2995930 ∷ pos 92842 ∷ pos 0 ∷ pos 50
          ∷ pos 36 ∷ pos 51 ∷ negsuc 24 ∷ pos 35 ∷ negsuc 2995930 ∷ pos 92842 ∷ pos 0 ∷ pos 50
          ∷ pos 0 ∷ pos 0 ∷ pos 0 ∷ [],
    )
    -- PHASE 2,048 mixes each input with its own previous one, and only then are they added: 1 + 1 from 1.5 each, so P is 3;
    -- were IA and IB made first, 3 would come of it, and P 4
    ∷ (
      split (having 5 (pos 2048) plain) 0xFF (raw (pos 8388607) (pos 3) (pos 3) ∷ raw (pos 8388607) (pos 0) (pos 0) ∷ []),
      pos 8388607
          ∷ pos 4 ∷ pos 6 ∷ pos 3 ∷ pos 3 ∷ pos 4194304 ∷ pos 98304 ∷ pos 6 ∷ pos 0
          ∷ pos 4 ∷ pos 6 ∷ pos 3 ∷ pos 3 ∷ pos 4194304 ∷ pos 98304 ∷ pos 6 ∷ pos 0
          ∷ pos 0 ∷ pos 0 ∷ pos 0 ∷ [],
    )
    -- twice S1 and twice S3, which are clipped; no input is
    ∷ (
      split plain 0xD7 (raw (pos 8388607) (pos 5000000) (negsuc 4999999) ∷ []),
      pos 8388607
          ∷ pos 8388607 ∷ pos 8388607 ∷ pos 8388606 ∷ pos 8388606 ∷ pos 4194304 ∷ pos 65536 ∷ pos 8388606 ∷ pos 0
          ∷ pos 8388607 ∷ pos 8388607 ∷ negsuc 8388606 ∷ pos 8388606 ∷ negsuc 4194303 ∷ pos 65536 ∷ pos 0 ∷ pos 8388607
          ∷ pos 0 ∷ pos 0 ∷ pos 0 ∷ [],
    )
    -- gain two clips both inputs, and both count; the sources have multipliers 0
    ∷ (
      split (having 4 (pos 4194304) plain) 0x55 (raw (pos 8388607) (pos 5000000) (negsuc 4999999) ∷ raw (pos 8388607) (pos 0) (pos 4194304) ∷ []),
      pos 8388607
          ∷ pos 0 ∷ pos 0 ∷ pos 0 ∷ pos 0 ∷ pos 0 ∷ pos 0 ∷ pos 0 ∷ pos 0
          ∷ pos 0 ∷ pos 0 ∷ pos 0 ∷ pos 0 ∷ pos 0 ∷ pos 0 ∷ pos 0 ∷ pos 0
          ∷ pos 0 ∷ pos 1 ∷ pos 2 ∷ [],
    )
    -- configuration 0: both are half of -S1 - S3
    ∷ (
      split plain 0x00 (raw (pos 8388607) (pos 100) (negsuc 50) ∷ []),
      pos 8388607
          ∷ pos 25 ∷ pos 25 ∷ negsuc 23 ∷ pos 24 ∷ negsuc 4194303 ∷ pos 65536 ∷ pos 0 ∷ pos 24
          ∷ pos 25 ∷ pos 25 ∷ negsuc 23 ∷ pos 24 ∷ negsuc 4194303 ∷ pos 65536 ∷ pos 0 ∷ pos 24
          ∷ pos 0 ∷ pos 0 ∷ pos 0 ∷ [],
    )
    ∷ []
