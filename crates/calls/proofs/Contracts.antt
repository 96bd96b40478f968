-- What the generated contracts of the module's methods allow, call by call; and that it is what `returned`, for the start `start_of`, says of the call.
use mathlib.Core.Path.{◌≡◌, sym, ap, ◌∙◌}
use Prim.Native.Nat.{ℕ}
use mathlib.Core.List.{List}
use lib.IntN.{ℤ}
use lib.ListN.{length}
use contract.Lifetimes.{Lfts}
use borrow.Fn.Kinds.{Dens}
use Rattle.std.specs.Prelude.{Result}
use Rattle.promise.specs.Determined.{Allowed}
use Rattle.steps.specs.Calls.{Reply, Methods}
use Rattle.steps.specs.Answers.{OrRefusal, answer_of}
use Rattle.refusal.specs.declared.Refusal.{Refusal}
use Rattle.address.specs.declared.WordAddr.{WordAddr}
use Rattle.address.specs.declared.ByteAddr.{ByteAddr}
use Rattle.alarm.specs.declared.Asked.{Asked}
use Rattle.aberzhan.specs.declared.Module.{Module}
use Rattle.aberzhan.specs.declared.Started.{Started}
use Rattle.aberzhan.specs.declared.Holding.{Holding}
use Rattle.aberzhan.specs.declared.Cards.{Cards}
use Rattle.calls.specs.Ports.{aberzhan}
use Rattle.aberzhan.specs.Module.{stepped, started, start_of, hold_of, read_of}
use Rattle.aberzhan.specs.Polling.{poll_of, poll_buffer}
use Rattle.aberzhan.specs.Cards.{cards_of}
use Rattle.calls.specs.Calls.{state_of, Call, call_open, call_write, call_commit, call_drop, call_hold, call_read, call_block, call_reset, step_of, call_of, from_step, from_hold, from_read, returned}
use Rattle.aberzhan.proofs.Module.start.Kinds as starts-k
use Rattle.aberzhan.proofs.Module.start.Reads as starts
use Rattle.aberzhan.proofs.Module.open.Kinds as opens-k
use Rattle.aberzhan.proofs.Module.open.Reads as opens
use Rattle.aberzhan.proofs.Module.write.Kinds as writes-k
use Rattle.aberzhan.proofs.Module.write.Reads as writes
use Rattle.aberzhan.proofs.Module.commit.Kinds as commits-k
use Rattle.aberzhan.proofs.Module.commit.Reads as commits
use Rattle.aberzhan.proofs.Module.drop.Kinds as drops-k
use Rattle.aberzhan.proofs.Module.drop.Reads as drops
use Rattle.aberzhan.proofs.Module.hold.Kinds as holds-k
use Rattle.aberzhan.proofs.Module.hold.Reads as holds
use Rattle.aberzhan.proofs.Module.read.Kinds as reads-k
use Rattle.aberzhan.proofs.Module.read.Reads as reads
use Rattle.aberzhan.proofs.Module.poll.Kinds as polls-k
use Rattle.aberzhan.proofs.Module.poll.Reads as polls
use Rattle.aberzhan.proofs.Module.block.Kinds as blocks-k
use Rattle.aberzhan.proofs.Module.block.Reads as blocks
use Rattle.aberzhan.proofs.Module.reset.Kinds as resets-k
use Rattle.aberzhan.proofs.Module.reset.Reads as resets
use Rattle.aberzhan.proofs.Module.cards.Kinds as cards-k
use Rattle.aberzhan.proofs.Module.cards.Reads as cards

-- ---- the contracts: what a method may return, and by `&mut self` may leave

-- `Module::start` may return r
abbrev pub Starts : ℤ → ℤ → List WordAddr → Asked → ℤ → Started → Type 0
Starts n b track asked config r =
    (κs : Lfts 0) × (a : Dens κs starts-k.ps) × Allowed 0 starts-k.ps starts-k.r starts.Post κs a r
    × (a.0 ≡ n) × (a.1.0 ≡ b) × (a.1.1.0 ≡ track) × (a.1.1.1.0 ≡ asked) × (a.1.1.1.1.0 ≡ config)

-- `Module::cards` of the module m may return r
abbrev pub Shows : Module → Cards → Type 0
Shows m r = (κs : Lfts 1) × (a : Dens κs cards-k.ps) × Allowed 1 cards-k.ps cards-k.r cards.Post κs a r × (a.0.now ≡ m)

-- `Module::hold` of the module m, at the port p, may return r and leave the module z
abbrev pub Holds : Module → ℤ → Result Holding Refusal → Module → Type 0
Holds m p r z = (κs : Lfts 1) × (a : Dens κs holds-k.ps) × (h : Allowed 1 holds-k.ps holds-k.r holds.Post κs a r) × (a.0.now ≡ m) × (a.1.0 ≡ p) × (h.lasts.0 ≡ z)

-- `Module::read` of the module m, at the port p and of the byte address b, may return r
abbrev pub Reads : Module → ℤ → ByteAddr → Result ℤ Refusal → Type 0
Reads m p b r = (κs : Lfts 1) × (a : Dens κs reads-k.ps) × Allowed 1 reads-k.ps reads-k.r reads.Post κs a r × (a.0.now ≡ m) × (a.1.0 ≡ p) × (a.1.1.0 ≡ b)

-- `Module::poll` of the module m, with this packet and these bytes of a lent buffer, may return r and leave the module z and these bytes
abbrev pub Polls : Module → List ℕ → List ℕ → Result ℕ Refusal → Module → List ℕ → Type 0
Polls m packet buffer r z left =
    (κs : Lfts 3) × (a : Dens κs polls-k.ps) × (h : Allowed 3 polls-k.ps polls-k.r polls.Post κs a r)
    × (a.0.now ≡ m) × (a.1.0.now ≡ packet) × (a.1.1.0.now ≡ buffer) × (h.lasts.0 ≡ z) × (h.lasts.1.1.0 ≡ left)

-- the call's method may return and leave what makes the reply and the module o; its first parameter is the module m, and the others are the call's
-- (a read takes the module by `&`, and so leaves m)
abbrev pub Allows : Call → Module → Reply aberzhan × Module → Type 0
Allows (call_open p text) m o =
    (κs : Lfts 2) × (a : Dens κs opens-k.ps) × (r : Result (Unit {0}) Refusal) × (h : Allowed 2 opens-k.ps opens-k.r opens.Post κs a r)
    × (a.0.now ≡ m) × (a.1.0 ≡ p) × (a.1.1.0.now ≡ text) × (o ≡ from_step (stepped r h.lasts.0))
Allows (call_write p field v) m o =
    (κs : Lfts 1) × (a : Dens κs writes-k.ps) × (r : Result (Unit {0}) Refusal) × (h : Allowed 1 writes-k.ps writes-k.r writes.Post κs a r)
    × (a.0.now ≡ m) × (a.1.0 ≡ p) × (a.1.1.0 ≡ field) × (a.1.1.1.0 ≡ v) × (o ≡ from_step (stepped r h.lasts.0))
Allows (call_commit p) m o =
    (κs : Lfts 1) × (a : Dens κs commits-k.ps) × (r : Result (Unit {0}) Refusal) × (h : Allowed 1 commits-k.ps commits-k.r commits.Post κs a r)
    × (a.0.now ≡ m) × (a.1.0 ≡ p) × (o ≡ from_step (stepped r h.lasts.0))
Allows (call_drop p) m o =
    (κs : Lfts 1) × (a : Dens κs drops-k.ps) × (r : Result (Unit {0}) Refusal) × (h : Allowed 1 drops-k.ps drops-k.r drops.Post κs a r)
    × (a.0.now ≡ m) × (a.1.0 ≡ p) × (o ≡ from_step (stepped r h.lasts.0))
Allows (call_hold p) m o =
    (κs : Lfts 1) × (a : Dens κs holds-k.ps) × (r : Result Holding Refusal) × (h : Allowed 1 holds-k.ps holds-k.r holds.Post κs a r)
    × (a.0.now ≡ m) × (a.1.0 ≡ p) × (o ≡ from_hold (stepped r h.lasts.0))
Allows (call_read p b) m o =
    (κs : Lfts 1) × (a : Dens κs reads-k.ps) × (r : Result ℤ Refusal) × Allowed 1 reads-k.ps reads-k.r reads.Post κs a r
    × (a.0.now ≡ m) × (a.1.0 ≡ p) × (a.1.1.0 ≡ b) × (o ≡ from_read (answer_of r) m)
Allows (call_block v s1 s3) m o =
    (κs : Lfts 4) × (a : Dens κs blocks-k.ps) × (r : Result (Unit {0}) Refusal) × (h : Allowed 4 blocks-k.ps blocks-k.r blocks.Post κs a r)
    × (a.0.now ≡ m) × (a.1.0.now ≡ v) × (a.1.1.0.now ≡ s1) × (a.1.1.1.0.now ≡ s3) × (o ≡ from_step (stepped r h.lasts.0))
Allows (call_reset mask) m o =
    (κs : Lfts 1) × (a : Dens κs resets-k.ps) × (r : Result (Unit {0}) Refusal) × (h : Allowed 1 resets-k.ps resets-k.r resets.Post κs a r)
    × (a.0.now ≡ m) × (a.1.0 ≡ mask) × (o ≡ from_step (stepped r h.lasts.0))

-- the module's methods, as crate `steps` has them
abbrev pub methods : Methods aberzhan
methods = record { Kept = Module; state_of = state_of; Call = Call; step_of = step_of; call_of = call_of; Allows = Allows }

-- ---- every outcome that they allow

pub start_is : (n b : ℤ) (track : List WordAddr) (asked : Asked) (config : ℤ) (r : Started) → Starts n b track asked config r → started r ≡ start_of n b track asked config
start_is n b track asked config r (κs, a, h, e, f, g, i, j) = rw (e, f, g, i, j) at h.allowed

pub shown_is : (m : Module) (r : Cards) → Shows m r → r ≡ cards_of m
shown_is m r (κs, a, h, e) = rw e at h.allowed

pub held_by : (m : Module) (p : ℤ) (r : Result Holding Refusal) (z : Module) → Holds m p r z → stepped r z ≡ hold_of m p
held_by m p r z (κs, a, h, e, f, g) = ap (stepped r) (sym g) ∙ (rw (e, f) at h.allowed)

pub read_by : (m : Module) (p : ℤ) (b : ByteAddr) (r : Result ℤ Refusal) → Reads m p b r → answer_of r ≡ read_of m p b
read_by m p b r (κs, a, h, e, f, g) = rw (e, f, g) at h.allowed

pub polled_is : (m : Module) (packet buffer : List ℕ) (r : Result ℕ Refusal) (z : Module) (left : List ℕ) → Polls m packet buffer r z left →
    (stepped r z ≡ poll_of m packet (length buffer)) × (left ≡ poll_buffer m packet buffer)
polled_is m packet buffer r z left (κs, a, h, e, f, g, i, j) = (ap (stepped r) (sym i) ∙ (rw (e, f, g) at h.allowed.0), sym j ∙ (rw (e, f, g) at h.allowed.1))

pub allowed_is : (k : Call) (m : Module) (o : Reply aberzhan × Module) → Allows k m o → o ≡ returned k m
allowed_is (call_open p text) m o (κs, a, r, h, e, f, g, q) = q ∙ ap from_step (rw (e, f, g) at h.allowed)
allowed_is (call_write p field v) m o (κs, a, r, h, e, f, g, i, q) = q ∙ ap from_step (rw (e, f, g, i) at h.allowed)
allowed_is (call_commit p) m o (κs, a, r, h, e, f, q) = q ∙ ap from_step (rw (e, f) at h.allowed)
allowed_is (call_drop p) m o (κs, a, r, h, e, f, q) = q ∙ ap from_step (rw (e, f) at h.allowed)
allowed_is (call_hold p) m o (κs, a, r, h, e, f, q) = q ∙ ap from_hold (rw (e, f) at h.allowed)
allowed_is (call_read p b) m o (κs, a, r, h, e, f, g, q) = q ∙ ap (λ (r : OrRefusal ℤ). from_read r m) (rw (e, f, g) at h.allowed)
allowed_is (call_block v s1 s3) m o (κs, a, r, h, e, f, g, i, q) = q ∙ ap from_step (rw (e, f, g, i) at h.allowed)
allowed_is (call_reset mask) m o (κs, a, r, h, e, f, q) = q ∙ ap from_step (rw (e, f) at h.allowed)
