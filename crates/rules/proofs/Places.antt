-- The six figures by their places: IRMS, IPEAK and P are the first three.
use Prim.Native.Nat.{ℕ}
use mathlib.Core.Path.{◌≡◌, refl}
use lib.IntN.{pos}
use lib.ListN.{get_or}
use Rattle.card.specs.declared.Card.{Card}
use Rattle.sample.specs.declared.Flow.{Flow}
use Rattle.rules.specs.Source.{six, figures_of, irms_of, ipeak_of, watt_of}

pub irms_at : (c : Card) (v : ℕ) (f : Flow) (n : ℕ) → get_or (figures_of c v f n) 0 (pos 0) ≡ pos (irms_of c f n)
unfolding figures_of six
irms_at c v f n = refl

pub peak_at : (c : Card) (v : ℕ) (f : Flow) (n : ℕ) → get_or (figures_of c v f n) 1 (pos 0) ≡ pos (ipeak_of f)
unfolding figures_of six
peak_at c v f n = refl

pub watt_at : (c : Card) (v : ℕ) (f : Flow) (n : ℕ) → get_or (figures_of c v f n) 2 (pos 0) ≡ watt_of c f n
unfolding figures_of six
watt_at c v f n = refl
