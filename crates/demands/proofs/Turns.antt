-- A program's log is that of the calls which its turns count as: their contracts allow it too.
use Prim.Native.Nat.{ℕ}
use mathlib.Core.Path.{◌≡◌, refl, sym, ap, subst, ◌∙◌}
use mathlib.Core.Bool.{Bool, true, false, cond}
use mathlib.Core.List.{List, [], ◌∷◌, ◌++◌, map}
use mathlib.Core.Option.{Option, none, some}
use lib.IntN.{ℤ, pos}
use lib.Dec.{ltb}
use lib.ListN.{length, get_or}
use Rattle.std.specs.Prelude.{Result, Ok, Err}
use Rattle.steps.specs.Answers.{OrRefusal, refused, accepted, answer_of}
use Rattle.steps.specs.Port.{Port}
use Rattle.steps.specs.Module.{Step, at_port, block, reset}
use Rattle.steps.specs.Calls.{Reply, refuses, done, returns, Log, noted, Ran, ended, called}
use Rattle.refusal.specs.declared.Refusal.{Refusal}
use Rattle.refusal.specs.declared.Refusal.TheVariants as refusal
use Rattle.address.specs.declared.ByteAddr.{ByteAddr}
use Rattle.address.specs.Addresses.{rows, register_of}
use Rattle.port.specs.declared.Held.{Held}
use Rattle.port.specs.Holds.{copy_of, copied}
use Rattle.port.specs.Reading.{registers, slot_off, look}
use Rattle.aberzhan.specs.declared.Module.{Module}
use Rattle.aberzhan.specs.declared.Holding.{Holding}
use Rattle.calls.specs.Ports.{aberzhan}
use Rattle.aberzhan.specs.Module.{Outcome, stepped, refusal as refused_with, held_of, port_at, at_port as at_port_of, holding, hold_of, read_of}
use Rattle.aberzhan.specs.Polling.{poll_of}
use Rattle.calls.specs.Calls.{Call, call_hold, call_read, step_of, from_hold, from_read, returned, program}
use Rattle.calls.specs.Turns.{Turn, poll, sent_by, read_call, poll_calls, counts_as, calls_of, noted_all}
use Rattle.calls.proofs.Contracts.{Allows, methods, polled_is, allowed_is}
use Rattle.calls.proofs.Counting.{poll_counts}
use Rattle.demands.specs.Program as P

-- ---- the contracts allow a hold and a read what their definitions say
-- what the code returns for an answer
abbrev Given : {A : Type 0} → OrRefusal A → Type 0
Given {A} q = (r : Result A Refusal) × (answer_of r ≡ q)

hold_given : (m : Module) (p : ℤ) → Given (hold_of m p).answer
unfolding hold_of copied
hold_given m p = by (port_at p) m.meter.work.any
  where
    by : (o : Option Port) (any : Bool) → let w = m.meter.work in
        Given (at_port_of o (refused_with 8 m) (λ p. holding m p (cond any (accepted (copy_of w.last w.settings.track)) (refused 14)))).answer
    by none any = (Err refusal.NoPort, refl)
    by (some p) true = (Ok _, refl)
    by (some p) false = (Err refusal.NoInterval, refl)

look_given : (h : Held) (a : ByteAddr) → Given (look h a)
unfolding look
look_given h a = by h.any (ltb (register_of a) rows) (slot_off h.track (register_of a))
  where
    by : (any known off : Bool) → Given (cond any (cond known (cond off (refused 17) (accepted (get_or (registers h.closed.regs) (register_of a) (pos 0)))) (refused 16)) (refused 15))
    by true true true = (Err refusal.SlotOff, refl)
    by true true false = (Ok _, refl)
    by true false off = (Err refusal.NoRegister, refl)
    by false known off = (Err refusal.NothingHeld, refl)

read_given : (m : Module) (p : ℤ) (a : ByteAddr) → Given (read_of m p a)
unfolding read_of
read_given m p a = by (port_at p)
  where
    by : (o : Option Port) → Given (at_port_of o (refused 8) (λ p. look (held_of m p) a))
    by none = (Err refusal.NoPort, refl)
    by (some p) = look_given (held_of m p) a

hold_allowed : (m : Module) (p : ℤ) → Allows (call_hold p) m (returned (call_hold p) m)
hold_allowed m p =
    let z = (hold_of m p).after in
    let g = hold_given m p in
    let is : stepped g.0 z ≡ hold_of m p = ap (λ (q : OrRefusal Holding). record { answer = q; after = z }) g.1 in
    (([], tt), (record { ref_ptr = (0, 0); ghost_name = 0; now = m }, (p, tt)), g.0, record { lasts = (z, (tt, tt)); allowed = is }, refl, refl, sym (ap from_hold is))

read_allowed : (m : Module) (p : ℤ) (a : ByteAddr) → Allows (call_read p a) m (returned (call_read p a) m)
read_allowed m p a =
    let g = read_given m p a in (
      ([], tt),
      (record { ref_ptr = (0, 0); now = m }, (p, (a, tt))),
      g.0,
      record { lasts = (tt, (tt, (tt, tt))); allowed = g.1 },
      refl,
      refl,
      refl,
      sym (ap (λ (q : OrRefusal ℤ). from_read q m) g.1),
    )

abbrev AllAllowed : List Call → Module → Type 0
AllAllowed [] m = Unit {0}
AllAllowed (k ∷ ks) m = Allows k m (returned k m) × AllAllowed ks (returned k m).1

reads_allowed : (r : List ℕ) (m : Module) → AllAllowed (map read_call r) m
reads_allowed [] m = tt
reads_allowed (a ∷ r) m = (read_allowed m (pos 1) (record { 0 = a }), reads_allowed r (returned (read_call a) m).1)

polls_allowed : (r : List ℕ) (m : Module) → AllAllowed (poll_calls r) m
polls_allowed [] m = tt
polls_allowed (a ∷ more) m = (hold_allowed m (pos 1), reads_allowed (a ∷ more) (returned (call_hold (pos 1)) m).1)

-- ---- calls before others
noted_end : (x : Step aberzhan) (q : Reply aberzhan) (l : Log aberzhan Module) → (noted aberzhan Module x q l).end ≡ l.end
noted_end x (refuses n) l = refl
noted_end x done l = refl
noted_end (at_port (some p) op) (returns v) l = refl
noted_end (at_port none op) (returns v) l = refl
noted_end (block b) (returns v) l = refl
noted_end (reset k) (returns v) l = refl

ran_before : (ks cs : List Call) (m : Module) (l : Log aberzhan Module) → AllAllowed ks m → Ran aberzhan methods cs (program ks m).end l →
    Ran aberzhan methods (ks ++ cs) m (noted_all ks m l)
ran_before [] cs m l a r = r
ran_before (k ∷ ks) cs m l a r =
    called a.0 (ran_before ks cs (returned k m).1 l a.1 (subst (λ (z : Module). Ran aberzhan methods cs z l) (noted_end (step_of k) (returned k m).0 (program ks (returned k m).1)) r))

-- ---- every turn
pub took_ran : {ts : List Turn} {m : Module} {l : Log aberzhan Module} → P.Took ts m l → Ran aberzhan methods (calls_of ts m) m l
took_ran P.ended = ended
took_ran (P.called {k} {ts} {m} {l} o a t) =
    called a (subst (λ (z : Module). Ran aberzhan methods (calls_of ts z) o.1 l) (ap (λ (o : Reply aberzhan × Module). o.1) (allowed_is k m o a)) (took_ran t))
took_ran (P.polled {packet} {buffer} {ts} {m} {l} r z left h t) =
    let e : z ≡ (poll_of m packet (length buffer)).after = ap (λ (o : Outcome ℕ). o.after) (polled_is m packet buffer r z left h).0 in
    let q = (poll_counts m packet buffer).same_module in
    ran_before (counts_as m (poll packet buffer)) (calls_of ts (poll_of m packet (length buffer)).after) m l (polls_allowed (sent_by m packet (length buffer)) m)
    (subst (λ (y : Module). Ran aberzhan methods (calls_of ts (poll_of m packet (length buffer)).after) y l) (e ∙ q)
    (subst (λ (y : Module). Ran aberzhan methods (calls_of ts y) z l) e (took_ran t)))
