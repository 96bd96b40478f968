-- Figures of a source's current (document 02, A5), worked out by hand: PHASE is half a sample, and each input is mixed with its own previous one before
-- a source is made of them. Each line has what the definitions give and, beside it, what it must be.
use Rattle.std.specs.Prelude.{ℕ, List, [], ◌∷◌, ℤ, pos}
use Rattle.card.specs.declared.Card.{Card}
use Rattle.serial.specs.Serials.{no_serial}
use Rattle.source.specs.Sources.{Current, IA, IB, multipliers_of}
use Rattle.sample.specs.declared.Inputs.{Inputs}
use Rattle.sample.specs.Sample.{source_current}

-- IGAIN g and PHASE 2,048; gain one for the voltage, other fields 0
unfoldable pub half_phase : ℕ → Card
half_phase g = record { serial = no_serial; fields = pos 0 ∷ pos 0 ∷ pos 2097152 ∷ pos g ∷ pos 2048 ∷ pos 0 ∷ pos 0 ∷ pos 0 ∷ [] }

abbrev pub both : ℕ → ℕ → Inputs
both s1 s3 = record { s1 = pos s1; s3 = pos s3 }

unfoldable pub current_after : ℕ → Current → ℕ → Inputs → Inputs → ℤ
current_after g w config before now = source_current (half_phase g) (multipliers_of w config) now before

unfoldable pub phase_figures : List (ℤ × ℤ)
phase_figures =
    -- twice S1: 4,194,303.5 is rounded down before it is doubled; were IA made first, it would be clipped and then halved
    (current_after 2097152 IA 7 (both 0 9) (both 8388607 5), pos 8388606)
    -- 2 times S1 and 2 times S3, halved: 0.5 and 0.5, each rounded down
    ∷ (current_after 2097152 IA 15 (both 0 0) (both 1 1), pos 0)
    -- S1 and S3 alone: each with its own previous one
    ∷ (current_after 2097152 IA 0x96 (both 100 20) (both 0 10), pos 50)
    ∷ (current_after 2097152 IB 0x96 (both 100 20) (both 0 10), pos 15)
    -- the previous one is corrected too: gain two
    ∷ (current_after 4194304 IA 0x96 (both 100 20) (both 0 10), pos 100)
    ∷ (current_after 4194304 IB 0x96 (both 100 20) (both 0 10), pos 30)
    ∷ []
