-- `card::is_card` meets its contract.
use Rattle.card.proofs.is_card.Goals as goal

pub returns : goal.returns
returns c = cc
