-- Demand 3, whole, for any measuring core behind any ports and any sequence of steps from a fresh module.
use Rattle.std.specs.Prelude.{◌≡◌, List}
use Rattle.steps.specs.Parts.{Parts}
use Rattle.steps.specs.Module.{Step, fresh}
use Rattle.steps.specs.Demand3.{long_run, short_run, Demand3}
use Rattle.steps.specs.Tidy.{InOrder}
use Rattle.steps.specs.Gauge.{Gauge, Ports, Metering, newly, in_force, parts_of}
use Rattle.steps.specs.OneCard.{OneCard, AllSamples}
use Rattle.steps.specs.Watching.{WatchHistory, MarksAre, ResetsAre}

-- `blank` stands where no card is yet, `w` and `a` are the work and the watch as the start settings make them
module _ (G : Gauge) (D : Ports (Metering G) G.Card) (blank : G.Card) (w : G.Work) (a : G.Watch) (xs : List (Step (parts_of G D))) where
  abbrev P : Parts
  P = parts_of G D

  abbrev m : Metering G
  m = newly G blank w a

  -- The shorter sequence is what the demand's words say; it closes the same intervals, gives every read the same value, counts the same
  -- energy, has the same card in force and the same alarms. Each closed interval is worked with one card, and no sample is lost. What
  -- watches the samples sees each with the card of its interval, and meets each reset where it stood.
  pub record Promise : Type 0 where
    pub in_order : InOrder P (fresh P m) xs
    pub demand3 : Demand3 P m xs
    pub same_card : in_force G (short_run P m xs).end.meter.intervals ≡ in_force G (long_run P m xs).end.meter.intervals
    pub one_card : OneCard G D blank w a xs
    pub all_samples : AllSamples G D blank w a xs
    pub watch_history : WatchHistory G D blank w a xs
    pub marks_are : MarksAre G D blank w a xs
    pub resets_are : ResetsAre G D blank w a xs
