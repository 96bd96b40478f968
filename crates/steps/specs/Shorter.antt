-- The shorter sequence of demand 3, made from the sequence itself in three passes: `struck` strikes out the refused steps, `moved`
-- moves each read to just behind the hold that it answers from, `drawn` strikes out the dropped cards and draws each committed
-- card's opening and writing into one act at its commit. Holds, commits, blocks and resets stay where they stood.
use Rattle.std.specs.Prelude.{List, [], ◌∷◌, ◌++◌}
use Rattle.std.proofs.Math.Option.{none, some}
use Rattle.steps.specs.Answers.{refused, accepted}
use Rattle.steps.specs.Port.{Port, PerPort, on, put_on, on_both, if_same}
use Rattle.steps.specs.Parts.{Parts}
use Rattle.steps.specs.Module.{edit, commit, drop_card, hold, read, Step, at_port, block, reset, State, Outcome, step}

-- what becomes of the card that a port has open
pub data Fate : Type 0 where
  stays_open will_commit will_drop : Fate

module _ (P : Parts) where
  -- ---- 1. Strike out the refused steps.

  abbrev pub struck_if : Outcome P → Step P → State P → (State P → List (Step P)) → List (Step P)
  struck_if (refused n) x s rest = rest s
  struck_if (accepted r) x s rest = x ∷ rest r.1

  abbrev pub struck : List (Step P) → State P → List (Step P)
  struck [] s = []
  struck (x ∷ xs) s = struck_if (step P x s) x s (struck xs)

  -- ---- 2. Move each read to just behind the hold that it answers from, the latest one on its own port.

  -- the addresses that port p reads before its next hold
  abbrev pub reads_ahead : Port → List (Step P) → List P.Address
  reads_ahead p [] = []
  reads_ahead p (at_port none op ∷ r) = reads_ahead p r
  reads_ahead p (at_port (some q) (edit e) ∷ r) = reads_ahead p r
  reads_ahead p (at_port (some q) commit ∷ r) = reads_ahead p r
  reads_ahead p (at_port (some q) drop_card ∷ r) = reads_ahead p r
  reads_ahead p (at_port (some q) (hold k) ∷ r) = if_same p q [] (reads_ahead p r)
  reads_ahead p (at_port (some q) (read a) ∷ r) = if_same p q (a ∷ reads_ahead p r) (reads_ahead p r)
  reads_ahead p (block b ∷ r) = reads_ahead p r
  reads_ahead p (reset k ∷ r) = reads_ahead p r

  -- port p reads each address of l, and then comes r
  abbrev pub read_each : Port → List P.Address → List (Step P) → List (Step P)
  read_each p [] r = r
  read_each p (a ∷ l) r = at_port (some p) (read a) ∷ read_each p l r

  -- a hold takes its reads with it, and a read goes from where it stood
  abbrev pub moved : List (Step P) → List (Step P)
  moved [] = []
  moved (at_port none op ∷ r) = at_port none op ∷ moved r
  moved (at_port (some p) (edit e) ∷ r) = at_port (some p) (edit e) ∷ moved r
  moved (at_port (some p) commit ∷ r) = at_port (some p) commit ∷ moved r
  moved (at_port (some p) drop_card ∷ r) = at_port (some p) drop_card ∷ moved r
  moved (at_port (some p) (hold k) ∷ r) = at_port (some p) (hold k) ∷ read_each p (reads_ahead p r) (moved r)
  moved (at_port (some p) (read a) ∷ r) = moved r
  moved (block b ∷ r) = block b ∷ moved r
  moved (reset k ∷ r) = reset k ∷ moved r

  -- ---- 3. Strike out the dropped cards, and draw each committed card's opening and writing into one act at its commit.

  -- an act: a step as it stands, or a whole card, opened, written and committed at once
  pub data Act : Type 0 where
    plain : Step P → Act
    card : Port → List P.Edit → Act

  -- port p does each edit of es, and then comes r
  abbrev pub edit_each : Port → List P.Edit → List (Step P) → List (Step P)
  edit_each p [] r = r
  edit_each p (e ∷ es) r = at_port (some p) (edit e) ∷ edit_each p es r

  -- the steps of a sequence of acts
  abbrev pub steps_of : List Act → List (Step P)
  steps_of [] = []
  steps_of (plain x ∷ r) = x ∷ steps_of r
  steps_of (card p es ∷ r) = edit_each p es (at_port (some p) commit ∷ steps_of r)

  -- what the steps to come make of the card that port p has open
  abbrev pub fate : Port → List (Step P) → Fate
  fate p [] = stays_open
  fate p (at_port none op ∷ r) = fate p r
  fate p (at_port (some q) (edit e) ∷ r) = fate p r
  fate p (at_port (some q) commit ∷ r) = if_same p q will_commit (fate p r)
  fate p (at_port (some q) drop_card ∷ r) = if_same p q will_drop (fate p r)
  fate p (at_port (some q) (hold k) ∷ r) = fate p r
  fate p (at_port (some q) (read a) ∷ r) = fate p r
  fate p (block b ∷ r) = fate p r
  fate p (reset k ∷ r) = fate p r

  -- for each port, the opening and writing met so far of a card that will be committed
  abbrev pub Drafts : Type 0
  Drafts = PerPort (List P.Edit)

  -- An edit stays where it stands if its card is still open at the end, waits for the commit of its card, or goes with its dropped card.
  abbrev pub drawn_edit : Fate → Port → P.Edit → (Drafts → List Act) → Drafts → List Act
  drawn_edit stays_open p e rest k = plain (at_port (some p) (edit e)) ∷ rest k
  drawn_edit will_commit p e rest k = rest (put_on p (on k p ++ (e ∷ [])) k)
  drawn_edit will_drop p e rest k = rest k

  abbrev pub drawn : List (Step P) → Drafts → List Act
  drawn [] k = []
  drawn (at_port none op ∷ r) k = plain (at_port none op) ∷ drawn r k
  drawn (at_port (some p) (edit e) ∷ r) k = drawn_edit (fate p r) p e (drawn r) k
  drawn (at_port (some p) commit ∷ r) k = card p (on k p) ∷ drawn r (put_on p [] k)
  drawn (at_port (some p) drop_card ∷ r) k = drawn r (put_on p [] k)
  drawn (at_port (some p) (hold t) ∷ r) k = plain (at_port (some p) (hold t)) ∷ drawn r k
  drawn (at_port (some p) (read a) ∷ r) k = plain (at_port (some p) (read a)) ∷ drawn r k
  drawn (block b ∷ r) k = plain (block b) ∷ drawn r k
  drawn (reset t ∷ r) k = plain (reset t) ∷ drawn r k

  -- ---- The three together, for a sequence of steps from the state s.

  abbrev pub shorter : State P → List (Step P) → List Act
  shorter s xs = drawn (moved (struck xs s)) (on_both [])
