-- A watch that is kept voltage by voltage and reset by reset, from a start on, is what the whole list of them means.
use Prim.Native.Nat.{ℕ, zero, suc, ◌+◌, ◌≤◌, ◌<◌, min}
use native.Mathlib.Nat.{not-suc-le-zero}
use mathlib.Core.Path.{◌≡◌, refl, sym, ap, ap₂, subst, ◌∙◌}
use mathlib.Core.Bool.{Bool, true, false, cond, not, ◌&&◌}
use mathlib.Core.List.{List, [], ◌∷◌, ◌++◌, append_assoc, append-nil, foldl}
use native.Mathlib.Omega.{arith}
use lib.IntN.{ℤ, pos}
use lib.ListN.{length, take, drop, set, get_or, replicate, length-set, length-append}
use Rattle.steps.specs.Answers.{OrRefusal, refused, accepted, or_as_before}
use Rattle.number.specs.Sign.{square_of}
use Rattle.alarm.specs.declared.Alarms.{Alarms}
use Rattle.alarm.specs.declared.Limits.{Limits}
use Rattle.alarm.specs.declared.Watch.{Watch}
use Rattle.alarm.specs.Masks.{only_alarms, named_by, no_alarms}
use Rattle.alarm.specs.Alarms.{Watching, both, next_place, slid_sum, sags, surges, shown, alarms_after, watched, cleared_of, clearing}
use Rattle.halfcycle.specs.Passing.{squares}
use Rattle.alarm.specs.Starting.{fresh_watch, no_volts}
use Rattle.halfcycle.specs.Inside.{Good}
use Rattle.halfcycle.specs.History.{Came, voltage, reset, voltages_of, reset_names, since_reset, last_squares, sagging, surging, stands, alarms_meant, met_by, Meant}
use Rattle.halfcycle.proofs.Windows.{next_below}
use Rattle.halfcycle.proofs.Rings.{in_turn, last_of, oldest_first, newest_last, last_more, squares_append, squares_last, squares_first, squares_zeros, squares_none}
use Rattle.halfcycle.proofs.Standing.{stands_more, stands_reset, sags_min, surges_min}

-- the voltages vs have come; a reset named sag last when s of them had, and surge when u had
record Runs (vs : List ℤ) (s u : ℕ) (q : Watching) : Type 0 where
  less : q.watch.at < q.watch.limits.w
  fits : q.watch.limits.w ≤ length q.volts
  seen : q.watch.seen ≡ min q.watch.limits.w (length vs)
  turn : in_turn q.watch.limits.w q.watch.at q.volts ≡ last_of q.watch.limits.w vs
  sum : q.watch.sum ≡ squares (last_of q.watch.limits.w vs)
  sag : q.watch.alarms.sag ≡ stands q.watch.limits.sticky.sag (sagging q.watch.limits) s vs
  surge : q.watch.alarms.surge ≡ stands q.watch.limits.sticky.surge (surging q.watch.limits) u vs
  s_most : s ≤ length vs
  u_most : u ≤ length vs

-- ---- one voltage more
module _ (vs : List ℤ) (s u : ℕ) (q : Watching) (h : Runs vs s u q) (v : ℤ) where
  abbrev a : Watch
  a = q.watch

  abbrev w : ℕ
  w = a.limits.w

  abbrev o : ℤ
  o = get_or q.volts a.at (pos 0)

  abbrev more : List ℤ
  more = vs ++ (v ∷ [])

  one_long : length more ≡ length vs + 1
  one_long = length-append vs (v ∷ [])

  abbrev rest : List ℤ
  rest = drop 1 (last_of w vs)

  in_turn_lem : last_of w vs ≡ o ∷ rest
  in_turn_lem = let e = sym h.turn ∙ oldest_first w a.at q.volts h.fits h.less in e ∙ ap (λ (l : List ℤ). o ∷ drop 1 l) (sym e)

  turn_more : in_turn w (next_place w a.at) (set q.volts a.at v) ≡ last_of w more
  turn_more =
      newest_last w a.at q.volts h.fits h.less v
      ∙ ap (λ (l : List ℤ). drop 1 l ++ (v ∷ [])) (sym (oldest_first w a.at q.volts h.fits h.less) ∙ h.turn)
      ∙ sym (last_more w vs v (omega (arith, h.less)))

  sum_more : slid_sum a.sum v o ≡ squares (last_of w more)
  unfolding slid_sum squares
  sum_more =
      let e : squares (last_of w more) ≡ squares rest + square_of v =
      ap squares (last_more w vs v (omega (arith, h.less))) ∙ squares_append rest (v ∷ []) ∙ omega arith in
      omega (arith, e, h.sum, squares_first (last_of w vs) o rest in_turn_lem)

  abbrev seen_now : ℕ
  seen_now = min w (suc a.seen)

  seen_more : seen_now ≡ min w (length more)
  seen_more = omega (arith, h.seen, one_long)

  compared : {so : Limits → ℕ → ℕ → Bool} → ((t : Limits) (n sum : ℕ) → so t (min t.w n) sum ≡ so t n sum) →
      so a.limits seen_now (slid_sum a.sum v o) ≡ so a.limits (length more) (last_squares w more)
  compared {so} same =
      ap₂ (so a.limits) seen_more (sum_more ∙ squares_last w more) ∙ same a.limits (length more) (last_squares w more)

  voltage_runs : Runs more s u (watched q v)
  unfolding watched alarms_after
  voltage_runs =
      let k = a.limits.sticky in
      record {
        less = next_below w a.at h.less;
        fits = omega (arith, h.fits, length-set q.volts a.at v);
        seen = seen_more;
        turn = turn_more;
        sum = sum_more;
        sag =
            ap₂ (shown k.sag) h.sag (compared {so = sags} sags_min) ∙ sym (stands_more (sagging a.limits) s vs v h.s_most k.sag);
        surge =
            ap₂ (shown k.surge) h.surge (compared {so = surges} surges_min) ∙ sym (stands_more (surging a.limits) u vs v h.u_most k.surge);
        s_most = omega (arith, h.s_most, one_long);
        u_most = omega (arith, h.u_most, one_long);
      }

-- ---- a reset
since_most : (b : Bool) (n s : ℕ) → s ≤ n → cond b n s ≤ n
since_most true n s h = omega arith
since_most false n s h = h

reset_by : (vs : List ℤ) (s u : ℕ) (q : Watching) (named : Alarms) → Runs vs s u q →
    Runs vs (cond named.sag (length vs) s) (cond named.surge (length vs) u) (both (cleared_of named q.watch) q.volts)
unfolding cleared_of
reset_by vs s u q named h =
    let t = q.watch.limits in
    record {
      less = h.less;
      fits = h.fits;
      seen = h.seen;
      turn = h.turn;
      sum = h.sum;
      sag = ap (λ (b : Bool). b && not named.sag) h.sag ∙ stands_reset t.sticky.sag (sagging t) s vs named.sag;
      surge = ap (λ (b : Bool). b && not named.surge) h.surge ∙ stands_reset t.sticky.surge (surging t) u vs named.surge;
      s_most = since_most named.sag (length vs) s h.s_most;
      u_most = since_most named.surge (length vs) u h.u_most;
    }

reset_runs : (vs : List ℤ) (s u : ℕ) (q : Watching) (mask : ℤ) → Runs vs s u q →
    let named = reset_names mask in Runs vs (cond named.sag (length vs) s) (cond named.surge (length vs) u) (met_by q (reset mask))
unfolding clearing
reset_runs vs s u q mask h = by (only_alarms mask)
  where
    by : (b : Bool) →
        let named = cond b (named_by mask) no_alarms in
        let r : OrRefusal Watch = cond b (accepted (cleared_of (named_by mask) q.watch)) (refused 12) in
        Runs vs (cond named.sag (length vs) s) (cond named.surge (length vs) u) (both (or_as_before r q.watch) q.volts)
    by true = reset_by vs s u q (named_by mask) h
    by false = h

-- ---- all of them
limits_kept : (q : Watching) (c : Came) → (met_by q c).watch.limits ≡ q.watch.limits
unfolding watched clearing cleared_of
limits_kept q (voltage v) = refl
limits_kept q (reset mask) = by (only_alarms mask)
  where
    by : (b : Bool) → (or_as_before (cond b (accepted (cleared_of (named_by mask) q.watch)) (refused 12)) q.watch).limits ≡ q.watch.limits
    by true = refl
    by false = refl

all_limits : (r : List Came) (q : Watching) → (foldl met_by q r).watch.limits ≡ q.watch.limits
all_limits [] q = refl
all_limits (c ∷ r) q = all_limits r (met_by q c) ∙ limits_kept q c

all_run : (r : List Came) (vs : List ℤ) (s u : ℕ) (q : Watching) → Runs vs s u q →
    Runs (vs ++ voltages_of r) (since_reset (λ a. a.sag) (length vs) s r) (since_reset (λ a. a.surge) (length vs) u r) (foldl met_by q r)
all_run [] vs s u q h = subst (λ (l : List ℤ). Runs l s u q) (sym (append-nil vs)) h
all_run (voltage v ∷ r) vs s u q h =
    let more = vs ++ (v ∷ []) in
    let n : length more ≡ suc (length vs) = length-append vs (v ∷ []) ∙ omega arith in
    let i = all_run r more s u (watched q v) (voltage_runs vs s u q h v) in
    subst (λ (k : ℕ). Runs (vs ++ (v ∷ voltages_of r)) (since_reset (λ a. a.sag) k s r) (since_reset (λ a. a.surge) k u r) (foldl met_by (watched q v) r)) n
    (subst (λ (l : List ℤ). Runs l (since_reset (λ a. a.sag) (length more) s r) (since_reset (λ a. a.surge) (length more) u r) (foldl met_by (watched q v) r))
    (append_assoc vs (v ∷ []) (voltages_of r)) i)
all_run (reset mask ∷ r) vs s u q h =
    let named = reset_names mask in
    all_run r vs (cond named.sag (length vs) s) (cond named.surge (length vs) u) (met_by q (reset mask)) (reset_runs vs s u q mask h)

-- ---- from a start on
take_zeros : (w n : ℕ) → w ≤ n → take w (replicate n (pos 0)) ≡ replicate w (pos 0)
take_zeros zero n h = refl
take_zeros (suc w) zero h = absurd (not-suc-le-zero h)
take_zeros (suc w) (suc n) h = ap (λ (l : List ℤ). pos 0 ∷ l) (take_zeros w n (omega arith))

fresh_runs : (t : Limits) → Good (fresh_watch t) no_volts → Runs [] 0 0 (both (fresh_watch t) no_volts)
fresh_runs t h = record {
  less = h.kept.at_less;
  fits = omega (arith, h.kept.w_most, h.kept.long);
  seen = omega arith;
  turn = ap (λ (l : List ℤ). l ++ []) (take_zeros t.w 512 h.kept.w_most);
  sum = sym (squares_append (replicate t.w (pos 0)) [] ∙ ap (λ (k : ℕ). k + squares []) (squares_zeros t.w) ∙ squares_none);
  sag = refl;
  surge = refl;
  s_most = omega arith;
  u_most = omega arith;
}

pub meant : (t : Limits) → Good (fresh_watch t) no_volts → (r : List Came) → Meant t r (foldl met_by (both (fresh_watch t) no_volts) r)
meant t h r =
    let q = foldl met_by (both (fresh_watch t) no_volts) r in
    let i = all_run r [] 0 0 (both (fresh_watch t) no_volts) (fresh_runs t h) in
    let e = all_limits r (both (fresh_watch t) no_volts) in
    record {
      limits = e;
      sum = i.sum ∙ squares_last q.watch.limits.w (voltages_of r) ∙ ap (λ (t : Limits). last_squares t.w (voltages_of r)) e;
      alarms = ap₂ (λ (sag : Bool) (surge : Bool). record { sag = sag; surge = surge }) i.sag i.surge ∙ ap (λ (t : Limits). alarms_meant t r) e;
    }
