-- Whatever a start and steps make is sound.
use Prim.Native.Nat.{ℕ, ◌-◌, ◌≤◌}
use mathlib.Core.Path.{◌≡◌, refl, sym, subst}
use mathlib.Core.Bool.{Bool, true, false, cond, ◌&&◌, true≢false}
use mathlib.Core.List.{List, [], ◌∷◌}
use mathlib.Core.Option.{Option}
use lib.Dec.{T, eqb, ltb, leb, lit≤}
use lib.IntN.{ℤ, pos, negsuc, nat_abs}
use lib.Signed.{non_neg}
use lib.ListN.{get_or, set, length, replicate}
use lib.Seq.{get_or-set_same, get_or-set_other, set_out}
use borrow.Author.Tests.{leb-true, ltb-true, ltb-false, eqb-true, eqb-false}
use Rattle.steps.specs.Answers.{OrRefusal, refused, accepted, and_then}
use Rattle.steps.specs.Gauge.{Meter, Metering, latest, sample, feeds, block_samples, watches, passes}
use Rattle.steps.proofs.Sound.{Sound}
use Rattle.steps.proofs.Outcomes.{refused_never, accepted_is}
use Rattle.serial.specs.declared.Serial.{Serial}
use Rattle.card.specs.declared.Card.{Card}
use Rattle.serial.proofs.Every.{and_right}
use Rattle.serial.specs.Serials.{is_serial, serial_of}
use Rattle.card.specs.Fields.{lows, highs, is_field, fits_field, field_in_range}
use Rattle.address.specs.declared.WordAddr.{WordAddr}
use Rattle.address.specs.Slots.{off, every_slot}
use Rattle.sample.specs.Inside.{Phased}
use Rattle.meter.proofs.Sound.{Sound as SoundMeter}
use Rattle.sample.specs.Sums.{Sample}
use Rattle.sample.proofs.Tests.{both_of}
use Rattle.interval.specs.declared.Closed.{Closed}
use Rattle.alarm.specs.declared.Asked.{Asked}
use Rattle.alarm.specs.declared.Limits.{Limits}
use Rattle.alarm.specs.Masks.{only_alarms, named_by}
use Rattle.alarm.specs.Alarms.{Watching, both, seen_with, cleared_of, clearing}
use Rattle.alarm.specs.Starting.{asked_ok, limits_in, fresh_watch, lowest_limits, lowest_watch, no_volts}
use Rattle.halfcycle.specs.Inside.{Good}
use Rattle.halfcycle.proofs.Parts.{good_more}
use Rattle.halfcycle.proofs.Fresh.{asked_good, lowest_good, cleared_good}
use Rattle.meter.specs.Core.{core, samples_of, reset_watch, kept_of}
use Rattle.meter.specs.Starting.{numbers_ok, config_ok, fresh_of, lowest_meter}
use Rattle.meter.proofs.Agreement.{feeds_sound, wait_sound}
use Rattle.meter.proofs.Starts.{numbers_in}
use Rattle.desk.specs.declared.Desk.{Desk}
use Rattle.aberzhan.specs.declared.Module.{Module}
use Rattle.desk.specs.Desks.{Edit, open_with, write_field, shut_desk, empty_card, with_field, opening, writing, all_written, card_on, finished}
use Rattle.calls.specs.Ports.{aberzhan}
use Rattle.aberzhan.specs.Module.{Outcome, fresh_module, settings_ok, start_of}

-- ---- the PHASE on a desk
empty_phased : (s : Serial) → Phased (card_on (empty_card s))
unfolding card_on empty_card
empty_phased s = record { low = tt; high = lit≤ tt }

pub shut_phased : Phased (card_on shut_desk)
unfolding card_on
shut_phased = record { low = tt; high = lit≤ tt }

abbrev InPhase : ℤ → Type 0
InPhase z = T (non_neg z) × (nat_abs z ≤ 4095)

in_phase : (v : ℤ) → fits_field 4 v ≡ true → InPhase v
unfolding fits_field lows highs
in_phase (pos n) h = (tt, leb-true n 4095 (and_right (leb 0 n) (leb n 4095) h))
in_phase (negsuc n) h = absurd (true≢false (sym h))

-- a field written at place k
set_phase : (xs : List ℤ) (k : ℕ) (v : ℤ) → fits_field k v ≡ true → InPhase (get_or xs 4 (pos 0)) → InPhase (get_or (set xs k v) 4 (pos 0))
set_phase xs k v h i = by (eqb k 4) refl (ltb 4 (length xs)) refl
  where
    same : (k : ℕ) → k ≡ 4 → fits_field k v ≡ true → (b : Bool) → ltb 4 (length xs) ≡ b → InPhase (get_or (set xs k v) 4 (pos 0))
    same k e h true l = rw (e, get_or-set_same xs 4 v (pos 0) (ltb-true _ _ l)) (in_phase v (rw e at h))
    same k e h false l = rw (e, set_out xs 4 v (ltb-false _ _ l)) i

    by : (b : Bool) → eqb k 4 ≡ b → (c : Bool) → ltb 4 (length xs) ≡ c → InPhase (get_or (set xs k v) 4 (pos 0))
    by true e c l = same k (eqb-true k 4 e) h c l
    by false e c l = rw (get_or-set_other xs k 4 v (pos 0) (λ q. eqb-false k 4 e (sym q))) i

field_phased : (d : Desk) (k : ℕ) (v : ℤ) → fits_field k v ≡ true → Phased (card_on d) → Phased (card_on (with_field d k v))
unfolding card_on with_field
field_phased d k v h i = let q = set_phase d.fields k v h (i.low, i.high) in record { low = q.0; high = q.1 }

opens_phased : (x y : Bool) (s : Serial) (e : Desk) → cond x (refused 9) (cond y (accepted (empty_card s)) (refused 1)) ≡ accepted e → Phased (card_on e)
opens_phased true y s e q = refused_never q
opens_phased false true s e q = subst (λ (d : Desk). Phased (card_on d)) (accepted_is q) (empty_phased s)
opens_phased false false s e q = refused_never q

writes_phased : (x y z : Bool) (d w e : Desk) → (z ≡ true → Phased (card_on w)) → cond x (cond y (cond z (accepted w) (refused 12)) (refused 11)) (refused 10) ≡ accepted e → Phased (card_on e)
writes_phased true true true d w e i q = subst (λ (d : Desk). Phased (card_on d)) (accepted_is q) (i refl)
writes_phased true true false d w e i q = refused_never q
writes_phased true false z d w e i q = refused_never q
writes_phased false y z d w e i q = refused_never q

pub edited_phased : (d : Desk) (e : Edit) (d' : Desk) → Phased (card_on d) → aberzhan.edited d e ≡ accepted d' → Phased (card_on d')
unfolding opening writing field_in_range
edited_phased d (open_with text) d' i q = opens_phased d.opened (is_serial text) (serial_of text) d' q
edited_phased d (write_field f v) d' i q =
    writes_phased d.opened (is_field f) (field_in_range f v) d (with_field d (nat_abs f - 1) v) d'
    (λ h. field_phased d (nat_abs f - 1) v (and_right (is_field f) (fits_field (nat_abs f - 1) v) h) i) q

card_phased : (x y : Bool) (c d : Card) → Phased c → cond x (cond y (accepted c) (refused 13)) (refused 10) ≡ accepted d → Phased d
card_phased true true c d i q = subst (λ (c : Card). Phased c) (accepted_is q) i
card_phased true false c d i q = refused_never q
card_phased false y c d i q = refused_never q

pub finished_phased : (d : Desk) (c : Card) → Phased (card_on d) → aberzhan.finished d ≡ accepted c → Phased c
unfolding finished
finished_phased d c i q = card_phased d.opened (all_written d.written) (card_on d) c i q

-- ---- the watch
abbrev GoodWatch : Watching → Type 0
GoodWatch q = Good q.watch q.volts

watches_good : (xs : List Sample) (m : Meter core) (q : Watching) → GoodWatch q → GoodWatch (watches core xs m q)
watches_good [] m q h = h
watches_good (x ∷ xs) m q h =
    let r = (sample core m.taken m x).0 in
    watches_good xs r (seen_with r.force q x.0) (good_more r.force q.watch q.volts x.0 h)

-- no sum of a sound meter can overflow, and its watch is good
abbrev pub SoundMetering : Metering core → Type 0
SoundMetering m = SoundMeter (kept_of m.intervals) × GoodWatch m.watch

abbrev pub SoundModule : Module → Type 0
SoundModule m = SoundMeter m.meter × Good m.watch m.volts

pub passes_sound : (q : OrRefusal (List Sample)) (o : Option Card) (m : Metering core) (r : Metering core × List Closed) → passes core q o m ≡ accepted r → SoundMetering m → SoundMetering r.0
passes_sound q o m r e h = by (feeds core q o m.intervals) refl e
  where
    by : (z : OrRefusal (Meter core × List Closed)) → feeds core q o m.intervals ≡ z →
        and_then z (λ k. (record { intervals = k.0; watch = watches core (block_samples core q) m.intervals m.watch }, k.1)) ≡ accepted r → SoundMetering r.0
    by (refused n) f g = refused_never g
    by (accepted k) f g =
        subst (λ (r : Metering core × List Closed). SoundMetering r.0) (accepted_is g)
        (feeds_sound q o m.intervals k f h.0, watches_good (block_samples core q) m.intervals m.watch h.1)

pub reset_sound : (m : Metering core) (mask : ℤ) (r : Metering core) → SoundMetering m → aberzhan.clear m mask ≡ accepted r → SoundMetering r
unfolding reset_watch clearing
reset_sound m mask r h e = by (only_alarms mask) e
  where
    by : (b : Bool) →
        and_then (and_then (cond b (accepted (cleared_of (named_by mask) m.watch.watch)) (refused 12)) (λ a. both a m.watch.volts)) (λ w. record { intervals = m.intervals; watch = w }) ≡ accepted r → SoundMetering r
    by true g = subst SoundMetering (accepted_is g) (h.0, cleared_good (named_by mask) m.watch.watch m.watch.volts h.1)
    by false g = refused_never g

-- ---- the steps keep it
abbrev pub sounds : Sound aberzhan
sounds = record {
  OfMeter = SoundMetering;
  OfCard = Phased;
  OfDesk = λ d. Phased (card_on d);
  shut_sound = shut_phased;
  edited_sound = edited_phased;
  finished_sound = finished_phased;
  wait_sound = λ c m i j. (wait_sound m.intervals c i j.0, j.1);
  feed_sound = λ m b r i e. passes_sound (samples_of b.0 b.1 b.2) (latest core m.intervals) m r e i;
  clear_sound = λ m k r i e. reset_sound m k r i e;
}

-- ---- what a start returns is a fresh module, taken or refused
module _ (P : Module → Type 0)
    (f : (n b : ℕ) (track : List WordAddr) (config : ℕ) (t : Limits) → 1 ≤ n → n ≤ 4096 → Good (fresh_watch t) no_volts → P (fresh_module (fresh_of n b track config) (fresh_watch t))) where
  module _ (n b : ℤ) (track : List WordAddr) (asked : Asked) (config : ℤ) where
    start_by : (s : Bool) → settings_ok n b track asked config ≡ s →
        P (cond {A = Outcome (Unit {0})} s (record { answer = accepted tt; after = fresh_module (fresh_of (nat_abs n) (nat_abs b) track (nat_abs config)) (fresh_watch (limits_in asked)) }) (record { answer = refused 7; after = fresh_module lowest_meter lowest_watch })).after
    unfolding settings_ok
    start_by true e =
        let j = both_of (numbers_ok n b && every_slot track && asked_ok asked) (config_ok config) e in
        let k = both_of (numbers_ok n b && every_slot track) (asked_ok asked) j.0 in
        let r = (numbers_in n b (both_of (numbers_ok n b) (every_slot track) k.0).0).0 in
        f (nat_abs n) (nat_abs b) track (nat_abs config) (limits_in asked) r.1 r.2 (asked_good asked k.1)
    start_by false e = f 1 1 (replicate 6 off) 0 lowest_limits (lit≤ tt) (lit≤ tt) lowest_good

    pub from_start : P (start_of n b track asked config).after
    unfolding start_of
    from_start = start_by (settings_ok n b track asked config) refl
