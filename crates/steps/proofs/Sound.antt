-- What holds of every meter, card and desk that the steps make holds in every state that they reach. To use: make a `Sound`, and cite
-- `always-sound`.
use mathlib.Core.Path.{◌≡◌, refl, sym, subst}
use mathlib.Core.List.{List, [], ◌∷◌}
use mathlib.Core.Option.{none, some}
use Rattle.steps.specs.Answers.{OrRefusal, refused, accepted, and_then}
use Rattle.steps.specs.Port.{Port, port0, port1, on, put_on}
use Rattle.steps.specs.Parts.{Parts}
use Rattle.steps.specs.Module.{edit, commit, drop_card, hold, read, Step, at_port, block, reset, State, with_meter, with_desk, with_held, Report, silent, commits, tells, closes, resets, Outcome, step, did_edit, did_commit, did_drop, did_hold, did_read, did_block, did_reset, Done}
use Rattle.steps.specs.Run.{Run, with_report, follow, run}
use Rattle.steps.specs.Calls.{after}

pub record Sound (P : Parts) : Type 1 where
  pub OfMeter : P.Meter → Type 0
  pub OfCard : P.Card → Type 0
  pub OfDesk : P.Desk → Type 0
  pub shut_sound : OfDesk P.shut
  pub edited_sound : (d : P.Desk) (e : P.Edit) (d' : P.Desk) → OfDesk d → P.edited d e ≡ accepted d' → OfDesk d'
  pub finished_sound : (d : P.Desk) (c : P.Card) → OfDesk d → P.finished d ≡ accepted c → OfCard c
  pub wait_sound : (c : P.Card) (m : P.Meter) → OfCard c → OfMeter m → OfMeter (P.wait c m)
  pub feed_sound : (m : P.Meter) (b : P.Block) (r : P.Meter × List P.Closed) → OfMeter m → P.feed m b ≡ accepted r → OfMeter r.0
  pub clear_sound : (m : P.Meter) (k : P.Mask) (m' : P.Meter) → OfMeter m → P.clear m k ≡ accepted m' → OfMeter m'

pub record SoundState (P : Parts) (S : Sound P) (s : State P) : Type 0 where
  pub meter : S.OfMeter s.meter
  pub desks : (p : Port) → S.OfDesk (on s.desks p)

module _ (P : Parts) where
  report_end : (a : Report P) (r : Run P) → (with_report P a r).end ≡ r.end
  report_end silent r = refl
  report_end (commits c) r = refl
  report_end (tells p o v) r = refl
  report_end (closes b c) r = refl
  report_end (resets k) r = refl

  follow_end : (o : Outcome P) (s : State P) (rest : State P → Run P) → (follow P o s rest).end ≡ (rest (after P o s)).end
  follow_end (refused n) s rest = refl
  follow_end (accepted r) s rest = report_end r.0 (rest r.1)

  module _ (S : Sound P) where
    open S use {OfDesk, OfMeter, shut_sound, edited_sound, finished_sound, wait_sound, feed_sound, clear_sound}

    -- ---- every step keeps a sound state

    with_desk_lem : (p : Port) (d : P.Desk) (s : State P) → OfDesk d → SoundState P S s → SoundState P S (with_desk P p d s)
    with_desk_lem p d s i w = record { meter = w.meter; desks = by p }
      where
        by : (p q : Port) → OfDesk (on (put_on p d s.desks) q)
        by port0 port0 = i
        by port0 port1 = w.desks port1
        by port1 port0 = w.desks port0
        by port1 port1 = i

    with_meter_lem : (m : P.Meter) (s : State P) → OfMeter m → SoundState P S s → SoundState P S (with_meter P m s)
    with_meter_lem m s i w = record { meter = i; desks = w.desks }

    with_held_lem : (p : Port) (h : P.Held) (s : State P) → SoundState P S s → SoundState P S (with_held P p h s)
    with_held_lem p h s w = record { meter = w.meter; desks = w.desks }

    after_sound : {A : Type 0} (q : OrRefusal A) (f : A → Done P) (s : State P) → SoundState P S s → ((a : A) → q ≡ accepted a → SoundState P S (f a).1) →
        SoundState P S (after P (and_then q f) s)
    after_sound (refused n) f s w k = w
    after_sound (accepted a) f s w k = k a refl

    pub step_sound : (x : Step P) (s : State P) → SoundState P S s → SoundState P S (after P (step P x s) s)
    step_sound (at_port none op) s w = w
    step_sound (at_port (some p) (edit e)) s w =
        after_sound (P.edited (on s.desks p) e) (did_edit P p s) s w (λ d q. with_desk_lem p d s (edited_sound (on s.desks p) e d (w.desks p) q) w)
    step_sound (at_port (some p) commit) s w =
        after_sound (P.finished (on s.desks p)) (did_commit P p s) s w
        (λ c q. with_meter_lem (P.wait c s.meter) (with_desk P p P.shut s) (wait_sound c s.meter (finished_sound (on s.desks p) c (w.desks p) q) w.meter) (with_desk_lem p P.shut s shut_sound w))
    step_sound (at_port (some p) drop_card) s w =
        after_sound (P.discarded (on s.desks p)) (did_drop P p s) s w (λ u q. with_desk_lem p P.shut s shut_sound w)
    step_sound (at_port (some p) (hold k)) s w =
        after_sound (P.copy k s.meter) (did_hold P p k s) s w (λ h q. with_held_lem p h s w)
    step_sound (at_port (some p) (read a)) s w = after_sound (P.look (on s.holds p) a) (did_read P p a s) s w (λ v q. w)
    step_sound (block b) s w =
        after_sound (P.feed s.meter b) (did_block P b s) s w (λ r q. with_meter_lem r.0 s (feed_sound s.meter b r w.meter q) w)
    step_sound (reset k) s w =
        after_sound (P.clear s.meter k) (did_reset P k s) s w (λ m q. with_meter_lem m s (clear_sound s.meter k m w.meter q) w)

    pub always_sound : (xs : List (Step P)) (s : State P) → SoundState P S s → SoundState P S (run P xs s).end
    always_sound [] s w = w
    always_sound (x ∷ xs) s w =
        subst (SoundState P S) (sym (follow_end (step P x s) s (run P xs))) (always_sound xs (after P (step P x s) s) (step_sound x s w))
