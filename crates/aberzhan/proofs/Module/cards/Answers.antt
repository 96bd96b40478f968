-- `Module::cards` meets its contract.
use Rattle.aberzhan.specs.Cards.{cards_of}
use Rattle.aberzhan.proofs.Module.cards.Goals as goal

pub returns : goal.returns
unfolding cards_of
returns c = simp (c.serial_if.ensures, c.serial_if-2.ensures)
