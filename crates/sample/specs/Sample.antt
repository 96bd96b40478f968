-- What a card makes of a raw sample.
use Rattle.std.specs.Prelude.{ℕ, Bool, true, ◌&&◌, List, [], ◌∷◌, ◌⊎◌, ℤ, pos, negsuc, ◌+ℤ◌, ◌-ℤ◌, ◌*ℤ◌, ◌≤ℤ◌, ◌<ℤ◌}
use Rattle.range.specs.Range.{in24, outside24, clipped}
use Rattle.number.specs.Rounding.{floor_div}
use Rattle.card.specs.declared.Card.{Card}
use Rattle.source.specs.declared.Multipliers.{Multipliers}
use Rattle.source.specs.Sources.{blended}
use Rattle.sample.specs.declared.Corrected.{Corrected}
use Rattle.sample.specs.declared.Inputs.{Inputs}
use Rattle.sample.specs.Fields.{voffs, ioffs, vgain, igain, phase}

-- every raw sample is in the 24-bit range
unfoldable pub every24 : List ℤ → Bool
every24 [] = true
every24 (z ∷ zs) = in24 z && every24 zs

-- (raw - offset) times gain, divided by 2^21 rounding down: the value before clipping
unfoldable pub scaled : ℤ → ℤ → ℤ → ℤ
scaled raw offset gain = floor_div ((raw -ℤ offset) *ℤ gain) 2097152

-- the corrected value: clipped
unfoldable pub corrected : ℤ → ℤ → ℤ → ℤ
corrected raw offset gain = clipped (scaled raw offset gain)

-- whether the value before clipping lay outside the 24-bit range (document 02, A2)
unfoldable pub was_clipped : ℤ → ℤ → ℤ → Bool
was_clipped raw offset gain = outside24 (scaled raw offset gain)

-- the same without a quotient: (raw - offset) times gain is below -8,388,608 times 2^21, which is -2^44, or not below 8,388,608 times 2^21, which is
-- 2^44 (`negsuc n` is -(n + 1)). `proofs/Clipped.antt` shows that a sample was clipped just if it is so
abbrev pub Beyond : ℤ → ℤ → ℤ → Type 0
Beyond raw offset gain = let z = (raw -ℤ offset) *ℤ gain in (z <ℤ negsuc 17592186044415) ⊎ (pos 17592186044416 ≤ℤ z)

-- to correct a sample gives both
unfoldable pub correction : ℤ → ℤ → ℤ → Corrected
correction raw offset gain = record { value = corrected raw offset gain; clipped = was_clipped raw offset gain }

-- ((4,096 - PHASE) times this one + PHASE times the previous one) / 4,096, rounding down
unfoldable pub mixed : ℕ → ℤ → ℤ → ℤ
mixed phase now previous = floor_div ((pos 4096 -ℤ pos phase) *ℤ now +ℤ pos phase *ℤ previous) 4096

-- the corrected voltage
unfoldable pub voltage : Card → ℤ → ℤ
voltage c raw = corrected raw (voffs c) (vgain c)

-- a current input, S1 or S3, corrected but not yet mixed with its previous one
unfoldable pub input : Card → ℤ → ℤ
input c raw = corrected raw (ioffs c) (igain c)

-- whether the card clips a raw voltage, and a raw input; an input mixed with its own previous one is never clipped
unfoldable pub voltage_clipped : Card → ℤ → Bool
voltage_clipped c raw = was_clipped raw (voffs c) (vgain c)

unfoldable pub input_clipped : Card → ℤ → Bool
input_clipped c raw = was_clipped raw (ioffs c) (igain c)

-- an input, corrected and mixed: the previous one is its previous raw sample corrected with the card now in force
unfoldable pub phased : Card → ℤ → ℤ → ℤ
phased c raw before = mixed (phase c) (input c raw) (input c before)

-- the current of a source with these multipliers, as it is summed: both inputs are corrected and mixed, and then the source is made of them
unfoldable pub source_current : Card → Multipliers → Inputs → Inputs → ℤ
source_current c m raw before = blended m (phased c raw.s1 before.s1) (phased c raw.s3 before.s3)
