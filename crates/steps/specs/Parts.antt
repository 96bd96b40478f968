-- What a module is made of: a meter, and two ports that each have a desk and a hold. What is inside them is left open here, so that
-- the promise holds for every measuring core. The numbers beside the fields are the refusals that document 01 lists for the step,
-- but for 8, the wrong port, which is the same for all.
use Rattle.std.specs.Prelude.{ℕ, ◌≡◌, List}
use Rattle.steps.specs.Answers.{OrRefusal, refused}

pub record Parts : Type 1 where
  pub Meter : Type 0  -- all that samples see or change: settings, sums, registers, energy, the card in force, the card that waits, alarms
  pub Desk : Type 0  -- a port's place for a card in the making; shut, or open with a serial and the fields written so far
  pub Edit : Type 0  -- one act at a desk: open with a serial, or write a field
  pub Card : Type 0  -- a whole card
  pub Held : Type 0  -- what a hold leaves on its port
  pub HoldKind : Type 0  -- how a hold is asked for; document 01 has one kind
  pub Address : Type 0  -- what a read asks for
  pub Value : Type 0  -- what a hold or a read returns
  pub Block : Type 0  -- what a block lends
  pub Mask : Type 0  -- what a reset names
  pub Closed : Type 0  -- a closed interval with all its registers
  -- cards
  pub shut : Desk
  pub edited : Desk → Edit → OrRefusal Desk  -- open: 9, 1; write: 10, 11, 12
  pub finished : Desk → OrRefusal Card  -- commit: 10, 13
  pub discarded : Desk → OrRefusal (Unit {0})  -- drop: 10
  pub wait : Card → Meter → Meter  -- the card waits, replacing any that waits
  -- readings
  pub unheld : Held  -- a port where nothing is held
  pub copy : HoldKind → Meter → OrRefusal Held  -- hold: 14
  pub told : HoldKind → Meter → Held → Value  -- what the hold returns: of what it holds, and of the meter as it is
  pub look : Held → Address → OrRefusal Value  -- read: 15, 16, 17
  -- where nothing is held, every read is refused
  pub unheld_refuses : (a : Address) → (n : ℕ) × (look unheld a ≡ refused n)
  -- samples: the meter after the block, and the intervals that the block closed
  pub feed : Meter → Block → OrRefusal (Meter × List Closed)  -- block: 5, 6, 18
  -- alarms
  pub clear : Meter → Mask → OrRefusal Meter  -- reset: 12
