-- What an interval's start, each sample and each close keep holds at the end of every sequence of steps: for the rules over the whole
-- history of closes, as the energy rule. To use: make a `LastingWork`, and cite `always-work`.
use Prim.Native.Nat.{ℕ, zero, suc}
use mathlib.Core.Path.{◌≡◌, sym, subst}
use mathlib.Core.Bool.{Bool, true, false, cond}
use mathlib.Core.List.{List, [], ◌∷◌, ◌++◌, append-nil, append_assoc}
use mathlib.Core.Option.{Option, none, some}
use Rattle.steps.specs.Answers.{OrRefusal, refused, accepted, and_then}
use Rattle.steps.specs.Module.{Step, State}
use Rattle.steps.specs.Gauge.{Gauge, Ports, Meter, Metering, latest, wait_over, worked_on, begun, closing, joins, begins, closes_before, sample, samples, passes, parts_of}
use Rattle.steps.specs.Run.{run}
use Rattle.steps.proofs.Outcomes.{refused_never, accepted_is}
use Rattle.steps.proofs.Always.{Lasting, always}

-- a fact about the work and the intervals closed so far, which an interval's start, each sample and each close keep
pub record LastingWork (G : Gauge) : Type 1 where
  pub Of : G.Work → List G.Closed → Type 0
  pub on_start : (c : G.Card) (w : G.Work) (h : List G.Closed) → Of w h → Of (G.start_interval c w) h
  pub on_add : (c : G.Card) (w : G.Work) (x : G.Sample) (h : List G.Closed) → Of w h → Of (G.add_sample c w x) h
  pub on_close : (c : G.Card) (w : G.Work) (h : List G.Closed) → Of w h → Of (G.close_interval c w).0 (h ++ ((G.close_interval c w).1 ∷ []))

module _ (G : Gauge) (L : LastingWork G) where
  open G use {Card, Sample, Work, Closed, start_interval, add_sample, breaks, full, close_interval}
  open L use {Of, on_start, on_add, on_close}

  abbrev After : Meter G × List Closed → List Closed → Type 0
  After r h = Of r.0.work (h ++ r.1)

  cond_keeps : (b : Bool) (q r : Meter G × List Closed) (h : List Closed) → After q h → After r h → After (cond b q r) h
  cond_keeps true q r h i j = i
  cond_keeps false q r h i j = j

  joins_keeps : (n : ℕ) (w : Work) (m : Meter G) (x : Sample) (h : List Closed) → Of w h → After (joins G n w m x) h
  joins_keeps n w m x h i =
      let c = m.force in
      let v = add_sample c w x in
      let j = on_add c w x h i in
      cond_keeps (full c (suc n) v) (closing G v m) (worked_on G (suc n) v m, []) h (on_close c v h j) (subst (Of v) (sym (append-nil h)) j)

  begun_keeps : (b : Bool) (m : Meter G) (h : List Closed) → Of m.work h → Of (cond b (wait_over G m) m).work h
  begun_keeps true m h i = i
  begun_keeps false m h i = i

  begins_keeps : (m : Meter G) (x : Sample) (h : List Closed) → Of m.work h → After (begins G m x) h
  begins_keeps m x h i =
      let b = begun G m in
      joins_keeps 0 (start_interval b.force b.work) b x h (on_start b.force b.work h (begun_keeps m.waits m h i))

  -- two pieces, one after the other
  then_keeps : (h k l : List Closed) (w : Work) → Of w ((h ++ k) ++ l) → Of w (h ++ (k ++ l))
  then_keeps h k l w i = subst (Of w) (append_assoc h k l) i

  closes_before_keeps : (m : Meter G) (x : Sample) (h : List Closed) → Of m.work h → After (closes_before G m x) h
  closes_before_keeps m x h i =
      let r = closing G m.work m in
      let q = begins G r.0 x in
      then_keeps h r.1 q.1 q.0.work (begins_keeps r.0 x (h ++ r.1) (on_close m.force m.work h i))

  sample_keeps : (n : ℕ) (m : Meter G) (x : Sample) (h : List Closed) → Of m.work h → After (sample G n m x) h
  sample_keeps zero m x h i = begins_keeps m x h i
  sample_keeps (suc n) m x h i = cond_keeps (breaks m.force (suc n) m.work x) (closes_before G m x) (joins G (suc n) m.work m x) h (closes_before_keeps m x h i) (joins_keeps (suc n) m.work m x h i)

  samples_keep : (xs : List Sample) (m : Meter G) (h : List Closed) → Of m.work h → After (samples G xs m) h
  samples_keep [] m h i = subst (Of m.work) (sym (append-nil h)) i
  samples_keep (x ∷ xs) m h i =
      let r = sample G m.taken m x in
      let q = samples G xs r.0 in
      then_keeps h r.1 q.1 q.0.work (samples_keep xs r.0 (h ++ r.1) (sample_keeps m.taken m x h i))

  passes_keep : (q : OrRefusal (List Sample)) (o : Option Card) (m : Metering G) (h : List Closed) (r : Metering G × List Closed) →
      passes G q o m ≡ accepted r → Of m.intervals.work h → Of r.0.intervals.work (h ++ r.1)
  passes_keep (refused n) o m h r e i = refused_never e
  passes_keep (accepted xs) none m h r e i = refused_never e
  passes_keep (accepted xs) (some c) m h r e i =
      subst (λ (r : Metering G × List Closed). Of r.0.intervals.work (h ++ r.1)) (accepted_is e) (samples_keep xs m.intervals h i)

  -- a reset leaves the work as it is
  clear_keeps : (q : OrRefusal G.Watch) (m m' : Metering G) (h : List Closed) →
      and_then q (λ a. record { intervals = m.intervals; watch = a }) ≡ accepted m' → Of m.intervals.work h → Of m'.intervals.work h
  clear_keeps (refused n) m m' h e i = refused_never e
  clear_keeps (accepted a) m m' h e i = subst (λ (m : Metering G). Of m.intervals.work h) (accepted_is e) i

  pub lasting : (D : Ports (Metering G) Card) → Lasting (parts_of G D)
  lasting D = record {
    Of = λ m h. Of m.intervals.work h;
    on_wait = λ c m h i. i;
    on_feed = λ m h b r e i. passes_keep (G.samples_of b) (latest G m.intervals) m h r e i;
    on_clear = λ k m h m' e i. clear_keeps (G.clear m.watch k) m m' h e i;
  }

  pub always_work : (D : Ports (Metering G) Card) (s : State (parts_of G D)) (xs : List (Step (parts_of G D))) →
      Of s.meter.intervals.work [] → Of (run (parts_of G D) xs s).end.meter.intervals.work (run (parts_of G D) xs s).closed
  unfolding lasting
  always_work D s xs i = always (parts_of G D) (lasting D) s xs i
