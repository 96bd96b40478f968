-- The registers' rules at the close, one for each line of document 01, over whole numbers.
use Rattle.std.specs.Prelude.{ℕ, ◌*◌, ◌-◌, ◌/◌, Bool, cond, eqb, ltb, ℤ, pos, negsuc, ◌*ℤ◌}
use Rattle.range.specs.Range.{clipped, capped, held_within}
use Rattle.number.specs.Sign.{lessened}
use Rattle.number.specs.Rounding.{toward_zero}
use Rattle.root.specs.Root.{root_of}

-- mean square (sum / n, down), less a square and not below 0; its root rounded down, at most 8,388,607
unfoldable pub rms : ℕ → ℕ → ℕ → ℕ
rms sum n less = capped (root_of (sum / n - less))

-- whether that root is below SQUELCH; it never is where SQUELCH is 0
unfoldable pub below_squelch : ℕ → ℕ → Bool
below_squelch squelch root = ltb root squelch

-- sum of products / (n times 2^23), toward zero, clipped; then its size less POFFS, or 0 if that is not positive, with its sign kept
unfoldable pub active_of : ℤ → ℕ → ℕ → ℤ
active_of sum n poffs = lessened (clipped (toward_zero sum (n * 8388608))) poffs

-- VRMS times IRMS / 2^23, down
unfoldable pub apparent_of : ℕ → ℕ → ℕ
apparent_of v i = v * i / 8388608

-- P times 2^22 / S toward zero, held within -4,194,304 and 4,194,304; 0 if S is 0
unfoldable pub factor_of : ℤ → ℕ → ℤ
factor_of p s = cond (eqb s 0) (pos 0) (held_within (negsuc 4194303) (pos 4194304) (toward_zero (p *ℤ pos 4194304) s))

-- IPEAK times 65,536 / IRMS, down, at most 8,388,607; 0 if IRMS is 0
unfoldable pub crest_of : ℕ → ℕ → ℕ
crest_of peak irms = cond (eqb irms 0) 0 (capped (peak * 65536 / irms))
