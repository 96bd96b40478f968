-- The meter, sample by sample: when a committed card comes into force, and when an interval closes; and what watches the samples beside
-- the intervals. How a sample is corrected and added, what is made of the sums at the close, and what the watch makes of a sample, is left
-- open (`Gauge`); so is what stands at the ports (`Ports`).
use Rattle.std.specs.Prelude.{ℕ, zero, suc, ◌≡◌, Bool, true, false, cond, List, [], ◌∷◌, ◌++◌}
use Rattle.std.proofs.Math.Option.{Option, none, some}
use Rattle.steps.specs.Answers.{OrRefusal, refused, accepted, and_then}
use Rattle.steps.specs.Parts.{Parts}

-- a measuring core
pub record Gauge : Type 1 where
  pub Card : Type 0
  pub Block : Type 0  -- what a block lends
  pub Sample : Type 0  -- what came at one moment
  pub Work : Type 0  -- start settings, the sums of the interval, and what outlives it: registers, energy, the previous raw sample
  pub Closed : Type 0  -- a closed interval with all its registers
  pub Watch : Type 0  -- what watches the samples, beside the intervals: the last of them and the alarms
  pub Mask : Type 0  -- what a reset names
  pub samples_of : Block → OrRefusal (List Sample)  -- the samples of a well-formed block; 5, 6
  pub start_interval : Card → Work → Work  -- the sums at an interval's beginning
  pub add_sample : Card → Work → Sample → Work  -- a sample, corrected with the card, joins the sums
  pub breaks : Card → ℕ → Work → Sample → Bool  -- does the interval of so many samples close before this one? (document 01: never)
  pub full : Card → ℕ → Work → Bool  -- does it close with the sample just added? (document 01: with the Nth)
  pub close_interval : Card → Work → Work × Closed  -- what is made of the sums
  pub sees : Card → Watch → Sample → Watch  -- a sample, corrected with the card, passes the watch
  pub clear : Watch → Mask → OrRefusal Watch  -- a reset acts on the watch alone; 12

-- what stands at the ports, as in `Parts`
pub record Ports (Meter Card : Type 0) : Type 1 where
  pub Desk : Type 0
  pub Edit : Type 0
  pub Held : Type 0
  pub HoldKind : Type 0
  pub Address : Type 0
  pub Value : Type 0
  pub shut : Desk
  pub edited : Desk → Edit → OrRefusal Desk
  pub finished : Desk → OrRefusal Card
  pub discarded : Desk → OrRefusal (Unit {0})
  pub unheld : Held
  pub copy : HoldKind → Meter → OrRefusal Held
  pub told : HoldKind → Meter → Held → Value
  pub look : Held → Address → OrRefusal Value
  pub unheld_refuses : (a : Address) → (n : ℕ) × (look unheld a ≡ refused n)

module _ (G : Gauge) where
  open G use {Card, Block, Sample, Work, Closed, Watch, Mask, samples_of, start_interval, add_sample, breaks, full, close_interval, sees, clear}

  -- ---- the intervals

  -- `waiting` counts only while `waits`, `force` only once `forced`
  pub record Meter : Type 0 where
    pub waits : Bool
    pub waiting : Card
    pub forced : Bool
    pub force : Card
    pub taken : ℕ  -- the samples of the interval so far; 0 between two intervals
    pub work : Work

  -- no card, no interval
  abbrev pub new : Card → Work → Meter
  new blank w = record { waits = false; waiting = blank; forced = false; force = blank; taken = 0; work = w }

  -- the card in force
  abbrev pub in_force : Meter → Option Card
  in_force m = cond m.forced (some m.force) none

  -- the card committed last: the next interval is worked with it
  abbrev pub latest : Meter → Option Card
  latest m = cond m.waits (some m.waiting) (in_force m)

  abbrev pub waits_for : Card → Meter → Meter
  waits_for c m = record { waits = true; waiting = c; forced = m.forced; force = m.force; taken = m.taken; work = m.work }

  abbrev pub wait_over : Meter → Meter
  wait_over m = record { waits = false; waiting = m.waiting; forced = true; force = m.waiting; taken = m.taken; work = m.work }

  abbrev pub worked_on : ℕ → Work → Meter → Meter
  worked_on n w m = record { waits = m.waits; waiting = m.waiting; forced = m.forced; force = m.force; taken = n; work = w }

  -- At an interval's first sample a committed card, if one waits, comes into force.
  abbrev pub begun : Meter → Meter
  begun m = cond m.waits (wait_over m) m

  -- the interval closes; from here on the number of samples is 0 again
  abbrev pub closing : Work → Meter → Meter × List Closed
  closing w m = let r = close_interval m.force w in (worked_on 0 r.0 m, r.1 ∷ [])

  -- the sample x joins the interval, which had n samples and the sums w, and closes it if that fills it
  abbrev pub joins : ℕ → Work → Meter → Sample → Meter × List Closed
  joins n w m x = let v = add_sample m.force w x in cond (full m.force (suc n) v) (closing v m) (worked_on (suc n) v m, [])

  -- the sample x is the first of an interval
  abbrev pub begins : Meter → Sample → Meter × List Closed
  begins m x = let b = begun m in joins 0 (start_interval b.force b.work) b x

  -- the interval closes before the sample x, which is the first of the next
  abbrev pub closes_before : Meter → Sample → Meter × List Closed
  closes_before m x = let r = closing m.work m in let q = begins r.0 x in (q.0, r.1 ++ q.1)

  -- one sample, when the interval has as many already as the number says
  abbrev pub sample : ℕ → Meter → Sample → Meter × List Closed
  sample zero m x = begins m x
  sample (suc n) m x = cond (breaks m.force (suc n) m.work x) (closes_before m x) (joins (suc n) m.work m x)

  abbrev pub samples : List Sample → Meter → Meter × List Closed
  samples [] m = (m, [])
  samples (x ∷ xs) m = let r = sample m.taken m x in let q = samples xs r.0 in (q.0, r.1 ++ q.1)

  -- 18: no card in force and none waits
  abbrev pub feeds : OrRefusal (List Sample) → Option Card → Meter → OrRefusal (Meter × List Closed)
  feeds (refused n) c m = refused n
  feeds (accepted xs) none m = refused 18
  feeds (accepted xs) (some c) m = accepted (samples xs m)

  -- ---- the meter whole: the intervals, and what watches the samples

  pub record Metering : Type 0 where
    pub intervals : Meter
    pub watch : Watch

  -- no card, no interval; w and a are what the start settings make
  abbrev pub newly : Card → Work → Watch → Metering
  newly blank w a = record { intervals = new blank w; watch = a }

  -- the samples of a block; one that is not well formed is refused and has none
  abbrev pub block_samples : OrRefusal (List Sample) → List Sample
  block_samples (refused n) = []
  block_samples (accepted xs) = xs

  -- each sample is seen with the card that works it: the one in force once it is taken
  abbrev pub watches : List Sample → Meter → Watch → Watch
  watches [] m a = a
  watches (x ∷ xs) m a = let q = (sample m.taken m x).0 in watches xs q (sees q.force a x)

  -- a block passes both or, refused, none
  abbrev pub passes : OrRefusal (List Sample) → Option Card → Metering → OrRefusal (Metering × List Closed)
  passes q c m =
      and_then (feeds q c m.intervals) (λ r. (record { intervals = r.0; watch = watches (block_samples q) m.intervals m.watch }, r.1))

  -- the module: this meter behind these ports
  abbrev pub parts_of : Ports Metering Card → Parts
  parts_of D = record {
    Meter = Metering;
    Card = Card;
    Block = Block;
    Mask = Mask;
    Closed = Closed;
    Desk = D.Desk;
    Edit = D.Edit;
    Held = D.Held;
    HoldKind = D.HoldKind;
    Address = D.Address;
    Value = D.Value;
    shut = D.shut;
    edited = D.edited;
    finished = D.finished;
    discarded = D.discarded;
    wait = λ c m. record { intervals = waits_for c m.intervals; watch = m.watch };
    unheld = D.unheld;
    copy = D.copy;
    told = D.told;
    look = D.look;
    unheld_refuses = D.unheld_refuses;
    feed = λ m b. passes (samples_of b) (latest m.intervals) m;
    clear = λ m k. and_then (clear m.watch k) (λ a. record { intervals = m.intervals; watch = a });
  }
