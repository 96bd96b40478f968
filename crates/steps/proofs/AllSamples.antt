-- The intervals lose no sample of an accepted block and take none twice.
use Prim.Native.Nat.{ℕ, zero, suc}
use mathlib.Core.Path.{◌≡◌, refl, ap, sym, subst, ◌∙◌}
use mathlib.Core.Bool.{Bool, true, false, cond}
use mathlib.Core.List.{List, [], ◌∷◌, ◌++◌, map, append-nil, append_assoc}
use mathlib.Core.Option.{Option, none, some}
use Rattle.steps.specs.Answers.{OrRefusal, refused, accepted, and_then}
use Rattle.steps.specs.Port.{Port, on}
use Rattle.steps.specs.Parts.{Parts}
use Rattle.steps.specs.Module.{Op, edit, commit, drop_card, hold, read, Step, at_port, block, reset, State, fresh, with_meter, Report, silent, commits, tells, closes, resets, Outcome, step_at, did_edit, did_commit, did_drop, did_hold, did_read, did_block, did_reset}
use Rattle.steps.specs.Run.{follow, run}
use Rattle.steps.specs.Shorter.{struck_if, struck}
use Rattle.steps.specs.Gauge.{Gauge, Ports, Meter, Metering, newly, in_force, latest, wait_over, worked_on, begun, closing, joins, begins, closes_before, sample, samples, block_samples, watches, passes, parts_of}
use Rattle.steps.specs.OneCard.{Tagged, tag_block, tagged, Interval, Place, cut_at, intervals, outset, samples_of_all, still_open, place_after, samples_fed, AllSamples}
use Rattle.steps.specs.Watching.{seen_of, sampled, with_card, with_cards, with_card_if}
use Rattle.steps.proofs.Outcomes.{refused_never, accepted_is}
use Rattle.steps.proofs.Watching.{cut_keeps}

module _ (G : Gauge) where
  open G use {Sample, Work, samples_of, full, breaks}

  -- the samples without their cards
  abbrev bare : List (Tagged G) → List Sample
  bare ts = map (λ (t : Tagged G). t.1) ts

  samples_of_lem : (c : G.Card) (xs : List Sample) (ts : List (Tagged G)) → bare (map (λ (x : Sample). (c, x)) xs ++ ts) ≡ xs ++ bare ts
  samples_of_lem c [] ts = refl
  samples_of_lem c (x ∷ xs) ts = ap (λ (l : List Sample). x ∷ l) (samples_of_lem c xs ts)

  -- ---- the cutting keeps what is put into it: so with the cards (`cut_keeps`), and so without

  open_bare : (o : Option (Interval G)) → bare (with_card_if G o) ≡ still_open G o
  open_bare none = refl
  open_bare (some i) = ap bare (sym (append-nil (with_card G i))) ∙ samples_of_lem i.card i.samples [] ∙ append-nil i.samples

  cards_bare : (is : List (Interval G)) (o : Option (Interval G)) → bare (with_cards G is ++ with_card_if G o) ≡ samples_of_all G is ++ still_open G o
  cards_bare [] o = open_bare o
  cards_bare (i ∷ is) o =
      ap bare (append_assoc (with_card G i) (with_cards G is) (with_card_if G o))
      ∙ samples_of_lem i.card i.samples (with_cards G is ++ with_card_if G o)
      ∙ ap (λ (l : List Sample). i.samples ++ l) (cards_bare is o)
      ∙ sym (append_assoc i.samples (samples_of_all G is) (still_open G o))

  seen_bare : (ts : List (Tagged G)) (p : Place G) → bare (sampled G (seen_of G ts p)) ≡ bare ts
  seen_bare [] p = refl
  seen_bare (t ∷ ts) p = ap (λ (l : List Sample). t.1 ∷ l) (seen_bare ts (cut_at G p.running p.left t).0)

  all_cut : (ts : List (Tagged G)) (w : Work) →
      samples_of_all G (intervals G ts (outset G w)) ++ still_open G (place_after G ts (outset G w)).running ≡ bare ts
  all_cut ts w =
      let p = outset G w in
      sym (cards_bare (intervals G ts p) (place_after G ts p).running) ∙ ap bare (cut_keeps G ts p) ∙ seen_bare ts p

  -- ---- what is put into it are the samples of the accepted blocks

  module _ (D : Ports (Metering G) G.Card) where
    abbrev P : Parts
    P = parts_of G D

    -- samples leave the card that was committed last as it is
    begun_latest : (m : Meter G) → latest G (begun G m) ≡ latest G m
    begun_latest m = by m.waits refl
      where
        by : (b : Bool) → m.waits ≡ b → latest G (cond b (wait_over G m) m) ≡ latest G m
        by true e = ap (λ (b : Bool). cond b (some m.waiting) (in_force G m)) (sym e)
        by false e = refl

    joins_latest : (n : ℕ) (w : Work) (m : Meter G) (x : Sample) → latest G (joins G n w m x).0 ≡ latest G m
    joins_latest n w m x = by (full m.force (suc n) (G.add_sample m.force w x))
      where
        by : (b : Bool) → let v = G.add_sample m.force w x in latest G (cond b (closing G v m) (worked_on G (suc n) v m, [])).0 ≡ latest G m
        by true = refl
        by false = refl

    begins_latest : (m : Meter G) (x : Sample) → latest G (begins G m x).0 ≡ latest G m
    begins_latest m x = let b = begun G m in joins_latest 0 (G.start_interval b.force b.work) b x ∙ begun_latest m

    sample_latest : (n : ℕ) (m : Meter G) (x : Sample) → latest G (sample G n m x).0 ≡ latest G m
    sample_latest zero m x = begins_latest m x
    sample_latest (suc n) m x = by (breaks m.force (suc n) m.work x)
      where
        by : (b : Bool) → latest G (cond b (closes_before G m x) (joins G (suc n) m.work m x)).0 ≡ latest G m
        by true = begins_latest (closing G m.work m).0 x
        by false = joins_latest (suc n) m.work m x

    samples_latest : (xs : List Sample) (m : Meter G) → latest G (samples G xs m).0 ≡ latest G m
    samples_latest [] m = refl
    samples_latest (x ∷ xs) m = samples_latest xs (sample G m.taken m x).0 ∙ sample_latest m.taken m x

    -- from any state: each accepted sample goes with the card committed last before it
    abbrev Fed : List (Step P) → Type 0
    Fed xs = (s : State P) → bare (tagged G D (latest G s.meter.intervals) (run P xs s).history) ≡ samples_fed G D (struck P xs s)

    -- a step at a port
    abbrev Aside : Report P → Metering G → Metering G → Type 0
    Aside silent m n = n ≡ m
    Aside (commits c) m n = n ≡ P.wait c m
    Aside (tells p op v) m n = n ≡ m
    Aside (closes b c) m n = ⊥
    Aside (resets k) m n = ⊥

    port_fed : (o : Option Port) (op : Op P) (xs : List (Step P)) (s : State P) → Fed xs → (q : Outcome P) →
        ((r : Report P × State P) → q ≡ accepted r → Aside r.0 s.meter r.1.meter) →
        bare (tagged G D (latest G s.meter.intervals) (follow P q s (run P xs)).history) ≡ samples_fed G D (struck_if P q (at_port o op) s (struck P xs))
    port_fed o op xs s ih (refused n) a = ih s
    port_fed o op xs s ih (accepted r) a = by r.0 (a r refl)
      where
        with_meter_lem : (m : Metering G) → r.1.meter ≡ m →
            bare (tagged G D (latest G m.intervals) (run P xs r.1).history) ≡ samples_fed G D (struck P xs r.1)
        with_meter_lem m e = ap (λ (m : Metering G). bare (tagged G D (latest G m.intervals) (run P xs r.1).history)) (sym e) ∙ ih r.1

        by : (x : Report P) → Aside x s.meter r.1.meter →
            bare (tagged G D (latest G s.meter.intervals) (follow P (accepted (x, r.1)) s (run P xs)).history) ≡ samples_fed G D (struck P xs r.1)
        by silent e = with_meter_lem s.meter e
        by (commits c) e = with_meter_lem (P.wait c s.meter) e
        by (tells p k v) e = with_meter_lem s.meter e
        by (closes b c) e = absurd e
        by (resets k) e = absurd e

    block_fed : (b : G.Block) (xs : List (Step P)) (s : State P) → Fed xs → (q : OrRefusal (List Sample)) (c : Option G.Card) →
        samples_of b ≡ q → latest G s.meter.intervals ≡ c →
        let o : Outcome P = and_then (passes G q c s.meter) (did_block P b s) in
        bare (tagged G D c (follow P o s (run P xs)).history) ≡ samples_fed G D (struck_if P o (block b) s (struck P xs))
    block_fed b xs s ih (refused n) c e k = ap (λ (c : Option G.Card). bare (tagged G D c (run P xs s).history)) (sym k) ∙ ih s
    block_fed b xs s ih (accepted ys) none e k = ap (λ (c : Option G.Card). bare (tagged G D c (run P xs s).history)) (sym k) ∙ ih s
    block_fed b xs s ih (accepted ys) (some c) e k =
        let n = s.meter.intervals in
        let m : Metering G = record { intervals = (samples G ys n).0; watch = watches G ys n s.meter.watch } in
        let t = with_meter P m s in
        let h = (run P xs t).history in
        ap (λ (q : OrRefusal (List Sample)). bare (tag_block G (some c) q (tagged G D (some c) h))) e
        ∙ samples_of_lem c ys (tagged G D (some c) h)
        ∙ ap (λ (d : Option G.Card). ys ++ bare (tagged G D d h)) (sym k ∙ sym (samples_latest ys n))
        ∙ ap (λ (l : List Sample). ys ++ l) (ih t)
        ∙ ap (λ (q : OrRefusal (List Sample)). block_samples G q ++ samples_fed G D (struck P xs t)) (sym e)

    reset_fed : (k : G.Mask) (xs : List (Step P)) (s : State P) → Fed xs → (q : OrRefusal G.Watch) →
        let o : Outcome P = and_then (and_then q (λ a. record { intervals = s.meter.intervals; watch = a })) (did_reset P k s) in
        bare (tagged G D (latest G s.meter.intervals) (follow P o s (run P xs)).history) ≡ samples_fed G D (struck_if P o (reset k) s (struck P xs))
    reset_fed k xs s ih (refused n) = ih s
    reset_fed k xs s ih (accepted a) = ih (with_meter P (record { intervals = s.meter.intervals; watch = a }) s)

    -- what a step at a port does to the meter
    aside : (p : Port) (op : Op P) (s : State P) (r : Report P × State P) → step_at P p op s ≡ accepted r → Aside r.0 s.meter r.1.meter
    aside p op s r e = by op r e
      where
        to : {A : Type 0} (q : OrRefusal A) (f : A → Report P × State P) → ((a : A) → Aside (f a).0 s.meter (f a).1.meter) →
            (r : Report P × State P) → and_then q f ≡ accepted r → Aside r.0 s.meter r.1.meter
        to (refused n) f h r e = refused_never e
        to (accepted a) f h r e = subst (λ (r : Report P × State P). Aside r.0 s.meter r.1.meter) (accepted_is e) (h a)

        by : (op : Op P) (r : Report P × State P) → step_at P p op s ≡ accepted r → Aside r.0 s.meter r.1.meter
        by (edit x) r e = to (P.edited (on s.desks p) x) (did_edit P p s) (λ d. refl) r e
        by commit r e = to (P.finished (on s.desks p)) (did_commit P p s) (λ c. refl) r e
        by drop_card r e = to (P.discarded (on s.desks p)) (did_drop P p s) (λ u. refl) r e
        by (hold k) r e = to (P.copy k s.meter) (did_hold P p k s) (λ h. refl) r e
        by (read a) r e = to (P.look (on s.holds p) a) (did_read P p a s) (λ v. refl) r e

    pub all_fed : (xs : List (Step P)) → Fed xs
    all_fed [] s = refl
    all_fed (at_port none op ∷ xs) s = all_fed xs s
    all_fed (at_port (some p) op ∷ xs) s = port_fed (some p) op xs s (all_fed xs) (step_at P p op s) (aside p op s)
    all_fed (block b ∷ xs) s = block_fed b xs s (all_fed xs) (samples_of b) (latest G s.meter.intervals) refl refl
    all_fed (reset k ∷ xs) s = reset_fed k xs s (all_fed xs) (G.clear s.meter.watch k)

    pub all_samples : (blank : G.Card) (w : Work) (a : G.Watch) (xs : List (Step P)) → AllSamples G D blank w a xs
    all_samples blank w a xs =
        let s = fresh P (newly G blank w a) in
        all_cut (tagged G D none (run P xs s).history) w ∙ all_fed xs s
