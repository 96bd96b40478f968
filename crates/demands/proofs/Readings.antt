-- A read behind a hold gives the registers of the interval that closed last, by the table's addresses.
use Prim.Native.Nat.{ℕ, suc}
use mathlib.Core.Path.{◌≡◌, refl, sym, ap, subst, ◌∙◌}
use mathlib.Core.Bool.{Bool, true, false, cond, true≢false}
use mathlib.Core.List.{List, [], ◌∷◌, map}
use mathlib.Core.Option.{none, some, none-ne-some, some-injective}
use lib.IntN.{ℤ, pos}
use lib.ListN.{get_or, length}
use borrow.Author.Tests.{ne_eqb}
use Rattle.std.specs.Prelude.{Result}
use Rattle.steps.specs.Answers.{OrRefusal, refused, answer_of}
use Rattle.steps.specs.Port.{Port, port0, port1}
use Rattle.steps.specs.Module.{State}
use Rattle.steps.proofs.Work.{LastingWork, always_work}
use Rattle.steps.specs.Calls.{Reply}
use Rattle.refusal.specs.declared.Refusal.{Refusal}
use Rattle.card.specs.declared.Card.{Card}
use Rattle.address.specs.declared.WordAddr.{WordAddr}
use Rattle.address.specs.Addresses.{position, register_of, words, trackable, untracked, byte_of}
use Rattle.rules.specs.Source.{figures_of, six}
use Rattle.tracking.specs.Tracking.{slots, followed}
use Rattle.interval.specs.declared.Settings.{Settings}
use Rattle.interval.specs.declared.Registers.{Registers}
use Rattle.interval.specs.declared.Closed.{Closed}
use Rattle.source.specs.Sources.{IA, IB}
use Rattle.interval.specs.Close.{source_after, registers_after, closed_of, figure_of}
use Rattle.meter.specs.declared.Work.{Work}
use Rattle.meter.specs.Core.{core, last_of, closed_work}
use Rattle.meter.specs.Starting.{fresh_of}
use Rattle.port.specs.declared.Held.{Held}
use Rattle.port.specs.Holds.{copy_of, copied}
use Rattle.port.specs.Reading.{shown_of, registers, slot_off, look}
use Rattle.aberzhan.specs.declared.Module.{Module}
use Rattle.aberzhan.specs.declared.Holding.{Holding}
use Rattle.aberzhan.specs.Module.{Outcome, held_of, port_at, hold_of, read_of, fresh_module}
use Rattle.calls.specs.Ports.{ports, aberzhan}
use Rattle.calls.specs.Calls.{state_of, number_of, call_read}
use Rattle.calls.proofs.Contracts.{Holds, held_by, Reads, read_by, allowed_is}
use Rattle.demands.specs.Program.{Program, first, settings, steps}
use Rattle.demands.specs.Readings.{Line, table_of, EachLine, Gives, GivesTable, ReadsTell}
use Rattle.demands.proofs.Demand3.{OfFresh, of_start, module_demand3}
use Rattle.demands.proofs.Holds.{shown_last}

-- ---- a closed interval has six figures of each source, and six minima and maxima
abbrev laid : Closed → Registers
laid z = record {
  vrms = z.regs.vrms;
  a = record { figures = slots (λ k. figure_of IA k z); plus = z.regs.a.plus; minus = z.regs.a.minus };
  b = record { figures = slots (λ k. figure_of IB k z); plus = z.regs.b.plus; minus = z.regs.b.minus };
  ends = record { low = slots (λ k. get_or z.regs.ends.low k (pos 0)); high = slots (λ k. get_or z.regs.ends.high k (pos 0)) };
}

closed_laid : (c : Card) (w : Work) → (last_of c w).regs ≡ laid (last_of c w)
unfolding last_of closed_of registers_after source_after figures_of six followed
closed_laid c w = refl

-- the work's settings, and the interval that it shows
record Showing (t : Settings) (w : Work) : Type 0 where
  settings_are : w.settings ≡ t
  last_laid : w.any ≡ true → w.last.regs ≡ laid w.last

lasts : Settings → LastingWork core
unfolding closed_work
lasts t = record {
  Of = λ w h. Showing t w;
  on_start = λ c w h i. i;
  on_add = λ c w x h i. record { settings_are = i.settings_are; last_laid = i.last_laid };
  on_close = λ c w h i. record { settings_are = i.settings_are; last_laid = λ e. closed_laid c w };
}

fresh_showing : OfFresh (λ m. Showing m.meter.work.settings m.meter.work)
unfolding fresh_module fresh_of
fresh_showing n b track config t n1 n2 g = record { settings_are = refl; last_laid = λ e. absurd (true≢false (sym e)) }

showing_last : (p : Program) → Showing (settings p) p.log.end.meter.work
unfolding lasts
showing_last p =
    let begun = of_start (λ (m : Module). Showing m.meter.work.settings m.meter.work) fresh_showing p in
    let ends = always_work core (lasts (settings p)) ports (state_of (first p)) (steps p) begun in
    let same = ap (λ (s : State aberzhan). s.meter.intervals.work) (module_demand3 p).as_calls.end in
    subst (Showing (settings p)) (sym same) ends

-- ---- the table's lines
abbrev Looks : List WordAddr → Closed → Line → Type 0
Looks track z e = look (copy_of z track) (record { 0 = e.0 }) ≡ e.1

-- for an interval with these registers
abbrev with_regs : Closed → Registers → Closed
with_regs z r = record { number = z.number; serial = z.serial; clips = z.clips; regs = r }

look_laid : (track : List WordAddr) (z : Closed) → EachLine (Looks track (with_regs z (laid z))) (table_of track (with_regs z (laid z)))
unfolding look copy_of register_of position words trackable untracked byte_of slot_off registers shown_of
look_laid track z =
    (refl, (refl, (refl, (refl, (refl, (refl, (refl, (refl, (refl, (refl, (refl, (refl, (refl, (refl, (refl, (refl, (refl, (refl, (refl, (refl, (refl, (refl, (refl, (refl, (refl, (refl, (refl, (refl, (refl, tt)))))))))))))))))))))))))))))

look_lines : (track : List WordAddr) (z : Closed) → z.regs ≡ laid z → EachLine (Looks track z) (table_of track z)
look_lines track z e = subst (λ (r : Registers). EachLine (Looks track (with_regs z r)) (table_of track (with_regs z r))) (sym e) (look_laid track z)

-- ---- an address that no line has
position_none : (a : ℕ) (ys : List ℕ) → EachLine (λ e. e.0 ≡ a → ⊥) (map (λ (y : ℕ). (y, refused 16)) ys) → position a ys ≡ length ys
unfolding position
position_none a [] away = refl
position_none a (y ∷ ys) away = rw (ne_eqb y a away.0) (ap suc (position_none a ys away.1))

look_elsewhere : (track : List WordAddr) (z : Closed) (a : ℕ) →
    EachLine (λ e. e.0 ≡ a → ⊥) (table_of track z) → look (copy_of z track) (record { 0 = a }) ≡ refused 16
unfolding look copy_of register_of words trackable untracked byte_of
look_elsewhere track z a away = rw (position_none a (map (λ (w : ℕ). (byte_of (record { 0 = w })).0) words) away)

-- ---- a read of what a hold left
held_after : (m : Module) (q : Port) → m.meter.work.any ≡ true →
    held_of (hold_of m (number_of (some q))).after q ≡ copy_of m.meter.work.last m.meter.work.settings.track
unfolding hold_of port_at copied
held_after m port0 e = rw e
held_after m port1 e = rw e

read_held : (m : Module) (q : Port) (a : ℕ) (r : Result ℤ Refusal) → Reads m (number_of (some q)) (record { 0 = a }) r →
    answer_of r ≡ look (held_of m q) (record { 0 = a })
unfolding read_of port_at
read_held m port0 a r h = read_by m (pos 0) (record { 0 = a }) r h
read_held m port1 a r h = read_by m (pos 1) (record { 0 = a }) r h

module _ (m : Module) (q : Port) (track : List WordAddr) (z : Closed) (e : held_of m q ≡ copy_of z track) where
  gives : (a : ℕ) (v : OrRefusal ℤ) → look (copy_of z track) (record { 0 = a }) ≡ v → Gives m q a v
  gives a v l r h = read_held m q a r h ∙ ap (λ (x : Held). look x (record { 0 = a })) e ∙ l

  each_gives : (es : List Line) → EachLine (Looks track z) es → EachLine (λ l. Gives m q l.0 l.1) es
  each_gives [] t = tt
  each_gives (l ∷ es) (x, xs) = (gives l.0 l.1 x, each_gives es xs)

  gives_table : z.regs ≡ laid z → GivesTable m q track z
  gives_table laid-is = record {
    lines = each_gives (table_of track z) (look_lines track z laid-is);
    elsewhere = λ a away. gives a (refused 16) (look_elsewhere track z a away);
    same_module = λ a o allows. ap (λ (o : Reply aberzhan × Module). o.1) (allowed_is (call_read (number_of (some q)) (record { 0 = a })) m o allows);
  }

-- the interval that is shown is that one
by_any : (m : Module) (q : Port) (t : Settings) (r : Result Holding Refusal) (left : Module) (z : Closed) → Holds m (number_of (some q)) r left → Showing t m.meter.work →
    (b : Bool) → m.meter.work.any ≡ b → cond b (some m.meter.work.last) none ≡ some z → GivesTable left q t.track z
by_any m q t r left z held s true e f =
    let last = m.meter.work.last in
    let is-z = some-injective last z f in
    let on_port : held_of left q ≡ copy_of last t.track =
    ap (λ (o : Outcome Holding). held_of o.after q) (held_by m (number_of (some q)) r left held) ∙ held_after m q e ∙ ap (λ (t : Settings). copy_of last t.track) s.settings_are in
    subst (GivesTable left q t.track) is-z (gives_table left q t.track last on_port (s.last_laid e))
by_any m q t r left z held s false e f = absurd (none-ne-some z f)

pub reads_tell : ReadsTell
reads_tell p q r left held z e =
    let m = p.log.end in
    by_any m q (settings p) r left z held (showing_last p) m.meter.work.any refl (shown_last p ∙ e)
