-- The cards that the module shows are those of its steps.
use mathlib.Core.Path.{◌≡◌, refl, ap, ◌∙◌}
use mathlib.Core.Bool.{Bool, true, false, cond}
use mathlib.Core.Option.{some, none}
use Rattle.steps.specs.Module.{State}
use Rattle.steps.specs.Gauge.{in_force}
use Rattle.serial.specs.Serials.{no_serial}
use Rattle.card.specs.declared.Card.{Card}
use Rattle.meter.specs.Core.{core}
use Rattle.aberzhan.specs.declared.Module.{Module}
use Rattle.aberzhan.specs.declared.Cards.{Cards}
use Rattle.calls.specs.Ports.{aberzhan}
use Rattle.aberzhan.specs.Cards.{serial_if, cards_of}
use Rattle.calls.proofs.Contracts.{shown_is}
use Rattle.demands.specs.Program.{first}
use Rattle.demands.specs.Beginning.{Fresh}
use Rattle.demands.specs.Cards.{in_wait, serial_shown, CardsShown}
use Rattle.demands.proofs.Beginning.{every_start}
use Rattle.demands.proofs.Demand3.{module_demand3}

there : (b : Bool) (c : Card) → serial_if b c ≡ serial_shown (cond b (some c) none)
there true c = refl
there false c = refl

forced : (m : Module) → (cards_of m).force ≡ serial_shown (cond m.meter.forced (some m.meter.force) none)
unfolding cards_of
forced m = there m.meter.forced m.meter.force

waits : (m : Module) → (cards_of m).waiting ≡ serial_shown (cond m.meter.waits (some m.meter.waiting) none)
unfolding cards_of
waits m = there m.meter.waits m.meter.waiting

fresh_shows : (m : Module) → Fresh m → cards_of m ≡ record { force = no_serial; waiting = no_serial }
unfolding cards_of
fresh_shows m f = rw (f.none_in_force, f.none_waits)

pub cards_shown : CardsShown
cards_shown p =
    let e = (module_demand3 p).as_calls.end in
    let m = p.log.end in
    record {
      none_at_first = λ r h. shown_is (first p) r h ∙ fresh_shows (first p) (every_start p).fresh;
      force = λ r h. ap (λ (c : Cards). c.force) (shown_is m r h) ∙ forced m ∙ ap (λ (s : State aberzhan). serial_shown (in_force core s.meter.intervals)) e;
      waiting = λ r h. ap (λ (c : Cards). c.waiting) (shown_is m r h) ∙ waits m ∙ ap (λ (s : State aberzhan). serial_shown (in_wait s.meter.intervals)) e;
    }
