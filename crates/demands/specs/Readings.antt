-- What a read behind a hold tells, after every program: line by line of the register table, of the interval that closed last.
use Rattle.std.specs.Prelude.{ℕ, Result, ◌+◌, ◌*◌, ◌≡◌, cond, List, [], ◌∷◌, ◌++◌, map, eqb, ℤ, pos, get_or}
use Rattle.std.proofs.Math.Option.{some}
use Rattle.steps.specs.Answers.{OrRefusal, refused, accepted, answer_of}
use Rattle.steps.specs.Port.{Port}
use Rattle.steps.specs.Calls.{Reply}
use Rattle.refusal.specs.declared.Refusal.{Refusal}
use Rattle.address.specs.declared.WordAddr.{WordAddr}
use Rattle.address.specs.Slots.{off}
use Rattle.source.specs.Sources.{Current, IA, IB}
use Rattle.interval.specs.declared.Closed.{Closed}
use Rattle.interval.specs.Close.{results_of, figure_of}
use Rattle.aberzhan.specs.declared.Module.{Module}
use Rattle.aberzhan.specs.declared.Holding.{Holding}
use Rattle.calls.specs.Ports.{aberzhan}
use Rattle.calls.specs.Calls.{number_of, call_read}
use Rattle.calls.proofs.Contracts.{Holds, Reads, Allows}
use Rattle.demands.specs.Program.{Program, settings, closes}
use Rattle.demands.specs.Holds.{lastly}

-- ---- the table: a byte address, and what a read of it gives
abbrev pub Line : Type 0
Line = ℕ × OrRefusal ℤ

-- a source's eight: where its RMS, PEAK, WATT, VA, PF, CREST, POS_CNT and NEG_CNT stand
abbrev pub of_source : Current → Closed → ℕ → ℕ → ℕ → ℕ → ℕ → ℕ → ℕ → ℕ → List Line
of_source w z rms peak watt va pf crest pos_cnt neg_cnt =
    (rms, accepted (figure_of w 0 z))
    ∷ (peak, accepted (figure_of w 1 z))
    ∷ (watt, accepted (figure_of w 2 z))
    ∷ (va, accepted (figure_of w 3 z))
    ∷ (pf, accepted (figure_of w 4 z))
    ∷ (crest, accepted (figure_of w 5 z))
    ∷ (pos_cnt, accepted (pos (results_of w z.regs).plus.count))
    ∷ (neg_cnt, accepted (pos (results_of w z.regs).minus.count))
    ∷ []

-- the MIN or the MAX of slot k, from 0, of those at `start` and behind it; 17 where the slot is off
abbrev pub of_slot : ℕ → List WordAddr → List ℤ → ℕ → Line
of_slot start track values k = (start + 3 * k, cond (eqb (get_or track k off).0 0) (refused 17) (accepted (get_or values k (pos 0))))

abbrev pub of_slots : ℕ → List WordAddr → List ℤ → List Line
of_slots start track values = map (of_slot start track values) (0 ∷ 1 ∷ 2 ∷ 3 ∷ 4 ∷ 5 ∷ [])

-- document 01's table with the words of document 02's A5, of the interval z: VA_RMS, IA, IB, MIN1 to MIN6, MAX1 to MAX6
abbrev pub table_of : List WordAddr → Closed → List Line
table_of track z =
    (0x81, accepted z.regs.vrms)
    ∷ (of_source IA z 0xBA 0xD2 0xE1 0xEA 0x12F 0x1A1 0x1AD 0x1B6
    ++ (of_source IB z 0xBD 0xD5 0xE4 0xED 0x132 0x1A4 0x1BF 0x1C8
    ++ (of_slots 0x153 track z.regs.ends.low
    ++ of_slots 0x165 track z.regs.ends.high)))

abbrev pub EachLine : (Line → Type 0) → List Line → Type 0
EachLine P [] = Unit {0}
EachLine P (e ∷ es) = P e × EachLine P es

-- ---- what the code returns

-- whatever the contract of `Module::read` allows, at the port q of the module m, of the byte address a, is this
abbrev pub Gives : Module → Port → ℕ → OrRefusal ℤ → Type 0
Gives m q a v = (r : Result ℤ Refusal) → Reads m (number_of (some q)) (record { 0 = a }) r → answer_of r ≡ v

-- each address of the table gives its register, and any other 16; and the module is the very same behind the read, so this holds of the next one too
pub record GivesTable (m : Module) (q : Port) (track : List WordAddr) (z : Closed) : Type 0 where
  pub lines : EachLine (λ e. Gives m q e.0 e.1) (table_of track z)
  pub elsewhere : (a : ℕ) → EachLine (λ e. e.0 ≡ a → ⊥) (table_of track z) → Gives m q a (refused 16)
  pub same_module : (a : ℕ) (o : Reply aberzhan × Module) → Allows (call_read (number_of (some q)) (record { 0 = a })) m o → o.1 ≡ m

-- left is any module that the contract of `Module::hold` allows to be left at the program's end, at either port, and z the interval that closed last
abbrev pub ReadsTell : Type 0
ReadsTell =
    (p : Program) (q : Port) (r : Result Holding Refusal) (left : Module) → Holds p.log.end (number_of (some q)) r left → (z : Closed) →
    lastly (closes p) ≡ some z → GivesTable left q (settings p).track z
