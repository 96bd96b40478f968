-- The history alone, the committed cards, the accepted blocks and the accepted resets in their order, decides what is closed: `play`
-- closes it again with no port and no step.
use Rattle.std.specs.Prelude.{◌≡◌, List, [], ◌∷◌, ◌++◌}
use Rattle.steps.specs.Answers.{OrRefusal, refused, accepted, or_as_before}
use Rattle.steps.specs.Parts.{Parts}
use Rattle.steps.specs.Module.{Step, State}
use Rattle.steps.specs.Run.{Event, committed, fed, cleared, run}

module _ (P : Parts) where
  abbrev pub played : OrRefusal (P.Meter × List P.Closed) → P.Meter → (P.Meter → List P.Closed) → List P.Closed
  played (refused n) m rest = rest m
  played (accepted r) m rest = r.1 ++ rest r.0

  -- the intervals that a history closes (a refused reset does not occur in one)
  abbrev pub play : List (Event P) → P.Meter → List P.Closed
  play [] m = []
  play (committed c ∷ h) m = play h (P.wait c m)
  play (fed b ∷ h) m = played (P.feed m b) m (play h)
  play (cleared k ∷ h) m = play h (or_as_before (P.clear m k) m)

  abbrev pub HistoryDecides : State P → List (Step P) → Type 0
  HistoryDecides s xs = (run P xs s).closed ≡ play (run P xs s).history s.meter
