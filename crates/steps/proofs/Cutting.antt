-- The meter and the cutting of samples into intervals go side by side, sample by sample: the same is closed, and each sample is worked with
-- the card of its interval.
use Prim.Native.Nat.{ℕ, suc}
use mathlib.Core.Path.{◌≡◌, refl, ap, ap₂, sym, subst, ◌∙◌}
use mathlib.Core.Bool.{Bool, true, false, cond}
use mathlib.Core.List.{List, [], ◌∷◌, ◌++◌, map, foldl-append, append_assoc}
use mathlib.Core.Option.{Option, none, some}
use lib.ListN.{length}
use Rattle.steps.specs.Gauge.{Gauge, Meter, in_force, latest, waits_for, wait_over, worked_on, begun, closing, joins, begins, closes_before, sample, samples}
use Rattle.steps.specs.OneCard.{Tagged, Interval, gathered, closed_with, closed_all, first_of, more_of, Place, cut_if_full, cut_before, cut_at, intervals, place_after}
use Rattle.steps.specs.Watching.{card_for}

length_snoc : {A : Type 0} (l : List A) (x : A) → length (l ++ (x ∷ [])) ≡ suc (length l)
length_snoc [] x = refl
length_snoc (y ∷ l) x = ap suc (length_snoc l x)

module _ (G : Gauge) where
  open G use {Card, Sample, Work, Closed, start_interval, add_sample, breaks, full, close_interval}

  abbrev with_card : Card → List Sample → Interval G
  with_card c xs = record { card = c; samples = xs }

  abbrev place : Work → Option (Interval G) → Place G
  place w i = record { left = w; running = i }

  -- the interval that is open in the meter m is i, begun on the work w
  abbrev pub Match : Meter G → Work → Option (Interval G) → Type 0
  Match m w none = (m.taken ≡ 0) × (m.work ≡ w)
  Match m w (some i) = (n : ℕ) × (m.taken ≡ suc n) × (length i.samples ≡ suc n) × (m.forced ≡ true) × (m.force ≡ i.card) × (gathered G i w ≡ m.work)

  pub match_wait : (c : Card) (m : Meter G) (w : Work) (i : Option (Interval G)) → Match m w i → Match (waits_for G c m) w i
  match_wait c m w none h = h
  match_wait c m w (some i) h = h

  -- What the meter has come to and has closed, r, is what the cutting has come to and has cut off, q, begun on the work w; t is the card
  -- committed last.
  pub record Cut (t : Card) (w : Work) (r : Meter G × List Closed) (q : Place G × List (Interval G)) : Type 0 where
    pub last : latest G r.0 ≡ some t
    pub match : Match r.0 q.0.left q.0.running
    pub closes : (is : List (Interval G)) → closed_all G (q.1 ++ is) w ≡ r.1 ++ closed_all G is q.0.left

  -- ---- one sample, under the card t; it is worked with the card c

  module _ (t : Card) where
    abbrev CutWith : Work → Meter G × List Closed → Place G × List (Interval G) → Card → Type 0
    CutWith w r q c = Cut t w r q × (r.0.force ≡ c)

    -- what comes into force
    forced_is : (b : Bool) (c : Card) → cond b (some c) none ≡ some t → (b ≡ true) × (c ≡ t)
    forced_is true c k = (refl, cc)
    forced_is false c k = (cc, cc)

    abbrev Begun : Meter G → Meter G → Type 0
    Begun q m = (latest G q ≡ some t) × (q.forced ≡ true) × (q.force ≡ t) × (q.work ≡ m.work)

    begun_is : (b : Bool) (m : Meter G) → m.waits ≡ b → latest G m ≡ some t → Begun (cond b (wait_over G m) m) m
    begun_is true m e k =
        let j = sym (ap (λ (b : Bool). cond b (some m.waiting) (in_force G m)) e) ∙ k in
        (j, refl, (forced_is true m.waiting j).1, refl)
    begun_is false m e k =
        let j = forced_is m.forced m.force (sym (ap (λ (b : Bool). cond b (some m.waiting) (in_force G m)) e) ∙ k) in
        (k, j.0, j.1, refl)

    -- a sample joins an interval, which is then full or not
    joined_cut : (b : Bool) (n : ℕ) (ys : List Sample) (w₀ w : Work) (m : Meter G) →
        length ys ≡ suc n → gathered G (with_card m.force ys) w₀ ≡ w → latest G m ≡ some t → m.forced ≡ true →
        let i = with_card m.force ys in
        let q : Place G × List (Interval G) = cond b (place (closed_with G i w₀).0 none, i ∷ []) (place w₀ (some i), []) in
        CutWith w₀ (cond b (closing G w m) (worked_on G (suc n) w m, [])) q m.force
    joined_cut true n ys w₀ w m l e k f =
        let v = (closed_with G (with_card m.force ys) w₀).0 in (
          record {
            last = k;
            match = (refl, ap (λ (z : Work). (close_interval m.force z).0) (sym e));
            closes = λ is. ap (λ (z : Work). (close_interval m.force z).1 ∷ closed_all G is v) e;
          },
          refl,
        )
    joined_cut false n ys w₀ w m l e k f = (record { last = k; match = (n, refl, l, f, refl, e); closes = λ is. refl }, refl)

    joins_cut : (n : ℕ) (ys : List Sample) (w₀ w : Work) (m : Meter G) (x : Sample) →
        length ys ≡ n → gathered G (with_card m.force ys) w₀ ≡ w → latest G m ≡ some t → m.forced ≡ true →
        CutWith w₀ (joins G n w m x) (cut_if_full G (with_card m.force (ys ++ (x ∷ []))) w₀) m.force
    joins_cut n ys w₀ w m x l e k f =
        let c = m.force in
        let i = with_card c (ys ++ (x ∷ [])) in
        let l' : length (ys ++ (x ∷ [])) ≡ suc n = length_snoc ys x ∙ ap suc l in
        let e' : gathered G i w₀ ≡ add_sample c w x = foldl-append (add_sample c) (start_interval c w₀) ys (x ∷ []) ∙ ap (λ (z : Work). add_sample c z x) e in
        subst (λ (b : Bool). CutWith w₀ (joins G n w m x) (cond b (place (closed_with G i w₀).0 none, i ∷ []) (place w₀ (some i), [])) c)
        (ap₂ (full c) (sym l') (sym e'))
        (joined_cut (full c (suc n) (add_sample c w x)) n (ys ++ (x ∷ [])) w₀ (add_sample c w x) m l' e' k f)

    -- the first sample of an interval, on the work w
    begins_cut : (m : Meter G) (w : Work) (x : Sample) → m.work ≡ w → latest G m ≡ some t → CutWith w (begins G m x) (cut_if_full G (first_of G (t, x)) w) t
    begins_cut m w x e k =
        let q = begun G m in
        let b = begun_is m.waits m refl k in
        subst (λ (w : Work). CutWith w (begins G m x) (cut_if_full G (first_of G (t, x)) w) t) (b.3 ∙ e)
        (subst (λ (c : Card). CutWith q.work (begins G m x) (cut_if_full G (with_card c (x ∷ [])) q.work) c) b.2
        (joins_cut 0 [] q.work (start_interval q.force q.work) q x refl refl b.0 b.1))

    -- a sample in the middle of an interval, which closes before it or not
    inside_cut : (b : Bool) (n : ℕ) (m : Meter G) (i : Interval G) (w₀ : Work) (x : Sample) →
        length i.samples ≡ n → m.forced ≡ true → m.force ≡ i.card → gathered G i w₀ ≡ m.work → latest G m ≡ some t →
        let q = cond b (cut_before G i w₀ (t, x)) (cut_if_full G (more_of G i (t, x)) w₀) in
        CutWith w₀ (cond b (closes_before G m x) (joins G n m.work m x)) q (cond b t i.card)
    inside_cut true n m i w₀ x l f c e k =
        let r = close_interval m.force m.work in
        let same : r ≡ closed_with G i w₀ = ap₂ close_interval c (sym e) in
        let q = begins_cut (worked_on G 0 r.0 m) (closed_with G i w₀).0 x (ap (λ (z : Work × Closed). z.0) same) k in (
          record {
            last = q.0.last;
            match = q.0.match;
            closes = λ is. ap₂ (λ (z : Closed) (l : List Closed). z ∷ l) (ap (λ (z : Work × Closed). z.1) (sym same)) (q.0.closes is);
          },
          q.1,
        )
    inside_cut false n m i w₀ x l f c e k =
        subst (λ (c : Card). CutWith w₀ (joins G n m.work m x) (cut_if_full G (with_card c (i.samples ++ (x ∷ []))) w₀) c) c
        (joins_cut n i.samples w₀ m.work m x l (ap (λ (c : Card). gathered G (with_card c i.samples) w₀) c ∙ e) k f)

    pub sample_cut : (m : Meter G) (w : Work) (i : Option (Interval G)) (x : Sample) → latest G m ≡ some t → Match m w i →
        CutWith w (sample G m.taken m x) (cut_at G i w (t, x)) (card_for G i w (t, x))
    sample_cut m w none x k q =
        subst (λ (n : ℕ). CutWith w (sample G n m x) (cut_at G none w (t, x)) t) (sym q.0) (begins_cut m w x q.1 k)
    sample_cut m w (some i) x k q =
        let n = q.0 in
        let cut : Bool → Place G × List (Interval G) = λ b. cond b (cut_before G i w (t, x)) (cut_if_full G (more_of G i (t, x)) w) in
        let same : breaks m.force (suc n) m.work x ≡ breaks i.card (length i.samples) (gathered G i w) x =
        ap (λ (c : Card). breaks c (suc n) m.work x) q.4 ∙ ap₂ (λ (z : ℕ) (u : Work). breaks i.card z u x) (sym q.2) (sym q.5) in
        subst (λ (n : ℕ). CutWith w (sample G n m x) (cut_at G (some i) w (t, x)) (card_for G (some i) w (t, x))) (sym q.1)
        (subst (λ (b : Bool). CutWith w (sample G (suc n) m x) (cut b) (cond b t i.card)) same
        (inside_cut (breaks m.force (suc n) m.work x) (suc n) m i w x q.2 q.3 q.4 q.5 k))

    -- ---- the samples of a block

    abbrev pub under : List Sample → List (Tagged G)
    under xs = map (λ (x : Sample). (t, x)) xs

    pub samples_cut : (xs : List Sample) (m : Meter G) (p : Place G) → latest G m ≡ some t → Match m p.left p.running →
        Cut t p.left (samples G xs m) (place_after G (under xs) p, intervals G (under xs) p)
    samples_cut [] m p k q = record { last = k; match = q; closes = λ is. refl }
    samples_cut (x ∷ xs) m p k q =
        let first = (sample_cut m p.left p.running x k q).0 in
        let r = sample G m.taken m x in
        let c = cut_at G p.running p.left (t, x) in
        let more = samples_cut xs r.0 c.0 first.last first.match in
        let cut = intervals G (under xs) c.0 in
        record {
          last = more.last;
          match = more.match;
          closes = λ is.
              ap (λ (l : List (Interval G)). closed_all G l p.left) (append_assoc c.1 cut is)
              ∙ first.closes (cut ++ is)
              ∙ ap (λ (l : List Closed). r.1 ++ l) (more.closes is)
              ∙ sym (append_assoc r.1 (samples G xs r.0).1 (closed_all G is (place_after G (under xs) c.0).left));
        }

  -- ---- samples, and then more

  pub intervals_append : (ts us : List (Tagged G)) (p : Place G) → intervals G (ts ++ us) p ≡ intervals G ts p ++ intervals G us (place_after G ts p)
  intervals_append [] us p = refl
  intervals_append (t ∷ ts) us p =
      let r = cut_at G p.running p.left t in
      ap (λ (l : List (Interval G)). r.1 ++ l) (intervals_append ts us r.0)
      ∙ sym (append_assoc r.1 (intervals G ts r.0) (intervals G us (place_after G ts r.0)))
