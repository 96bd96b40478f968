-- The registers of one current source, of a card, the interval's sums and the true number n of its samples.
use Rattle.std.specs.Prelude.{ℕ, ◌*◌, Bool, cond, List, [], ◌∷◌, ℤ, pos}
use Rattle.range.specs.Range.{capped}
use Rattle.card.specs.declared.Card.{Card}
use Rattle.sample.specs.declared.Flow.{Flow}
use Rattle.sample.specs.Fields.{irmsoffs, squelch, poffs}
use Rattle.rules.specs.Rules.{rms, below_squelch, active_of, apparent_of, factor_of, crest_of}

-- VRMS, of the sum of the voltage squares
unfoldable pub vrms_of : ℕ → ℕ → ℕ
vrms_of vv n = rms vv n 0

-- the root of the current: of its mean square, less IRMSOFFS squared and not below 0; at most 8,388,607
unfoldable pub current_root : Card → Flow → ℕ → ℕ
current_root c f n = rms f.ii n (irmsoffs c * irmsoffs c)

-- an interval is squelched where that root is below SQUELCH
unfoldable pub is_squelched : Card → Flow → ℕ → Bool
is_squelched c f n = below_squelch (squelch c) (current_root c f n)

-- IRMS: that root; 0 if squelched
unfoldable pub irms_of : Card → Flow → ℕ → ℕ
irms_of c f n = cond (is_squelched c f n) 0 (current_root c f n)

-- P; 0 if squelched (document 02, A1)
unfoldable pub watt_of : Card → Flow → ℕ → ℤ
watt_of c f n = cond (is_squelched c f n) (pos 0) (active_of f.vi n (poffs c))

-- IPEAK: largest size of the current, at most 8,388,607
unfoldable pub ipeak_of : Flow → ℕ
ipeak_of f = capped f.peak

-- IRMS, IPEAK, P, S, PF and crest, in the table's order, of VRMS, IRMS, IPEAK and P
unfoldable pub six : ℕ → ℕ → ℕ → ℤ → List ℤ
six v i peak p = let s = apparent_of v i in pos i ∷ pos peak ∷ p ∷ pos s ∷ factor_of p s ∷ pos (crest_of peak i) ∷ []

-- the six figures of a source; v is VRMS
unfoldable pub figures_of : Card → ℕ → Flow → ℕ → List ℤ
figures_of c v f n = six v (irms_of c f n) (ipeak_of f) (watt_of c f n)
