-- Calls of code, one after the other, do what the run does; so demand 3 holds of the calls, and of the struct that the code keeps. To use:
-- show what the methods' contracts allow (`Does`), and cite `calls-demand3`.
use Prim.Native.Nat.{suc}
use mathlib.Core.Path.{◌≡◌, refl, ap, sym, subst, ◌∙◌}
use mathlib.Core.List.{List, [], ◌∷◌, map}
use mathlib.Core.Option.{none, some}
use Rattle.steps.specs.Answers.{OrRefusal, refused, accepted, and_then}
use Rattle.steps.specs.Port.{Port, PerPort, on, put_on}
use Rattle.steps.specs.Parts.{Parts}
use Rattle.steps.specs.Module.{Op, edit, commit, drop_card, hold, read, Step, at_port, block, reset, State, with_held, fresh, Report, silent, commits, tells, closes, resets, Outcome, step, did_edit, did_commit, did_drop, did_block, did_reset, Done}
use Rattle.steps.specs.Run.{Run, with_report, follow, run}
use Rattle.steps.specs.Shorter.{steps_of, shorter}
use Rattle.steps.specs.Calls.{Reply, reply, after, Methods, Log, noted, Ran, ended, called, shorter_calls, CallsDemand3}
use Rattle.steps.proofs.Demand3.{demand3}
use Rattle.steps.proofs.Sound.{Sound, SoundState, step_sound}

-- what a method's contract allows is what its step does, in every sound state; and every step has its call
pub record Does (P : Parts) (S : Sound P) (M : Methods P) : Type 0 where
  pub replies : (k : M.Call) (m : M.Kept) (o : Reply P × M.Kept) → SoundState P S (M.state_of m) → M.Allows k m o → o.0 ≡ reply P (step P (M.step_of k) (M.state_of m))
  pub leaves : (k : M.Call) (m : M.Kept) (o : Reply P × M.Kept) → SoundState P S (M.state_of m) → M.Allows k m o →
      M.state_of o.1 ≡ after P (step P (M.step_of k) (M.state_of m)) (M.state_of m)
  pub step_call : (x : Step P) → M.step_of (M.call_of x) ≡ x

module _ (P : Parts) (S : Sound P) (M : Methods P) (A : Does P S M) where
  open M use {Kept, state_of, Call, step_of, call_of, Allows}

  abbrev Agree : Log P Kept → Run P → Type 0
  Agree l r = (l.refusals ≡ r.refusals) × (l.heard ≡ r.heard) × (state_of l.end ≡ r.end)

  -- a step that tells nothing
  abbrev Untold : Report P → Type 0
  Untold silent = Unit {0}
  Untold (commits c) = Unit {0}
  Untold (tells p op v) = ⊥
  Untold (closes b c) = Unit {0}
  Untold (resets k) = Unit {0}

  module _ (rest : State P → Run P) (s : State P) (l : Log P Kept) where
    report_agree : (x : Step P) (a : Report P) (t : State P) → Untold a → Agree l (rest t) → Agree (noted P Kept x (reply P (accepted (a, t))) l) (with_report P a (rest t))
    report_agree x silent t u g = g
    report_agree x (commits c) t u g = g
    report_agree x (tells p op v) t u g = absurd u
    report_agree x (closes b c) t u g = g
    report_agree x (resets k) t u g = g

    other_agree : {A : Type 0} (x : Step P) (q : OrRefusal A) (f : A → Done P) → ((a : A) → Untold (f a).0) → Agree l (rest (after P (and_then q f) s)) →
        Agree (noted P Kept x (reply P (and_then q f)) l) (follow P (and_then q f) s rest)
    other_agree x (refused n) f u g = (ap suc g.0, g.1, g.2)
    other_agree x (accepted a) f u g = report_agree x (f a).0 (f a).1 (u a) g

    told_agree : {A : Type 0} (p : Port) (op : Op P) (q : OrRefusal A) (v : A → P.Value) (t : A → State P) →
        let o : Outcome P = and_then q (λ a. (tells p op (v a), t a)) in
        Agree l (rest (after P o s)) → Agree (noted P Kept (at_port (some p) op) (reply P o) l) (follow P o s rest)
    told_agree p op (refused n) v t g = (ap suc g.0, g.1, g.2)
    told_agree p op (accepted a) v t g = (g.0, ap (λ (z : PerPort (List (Op P × P.Value))). put_on p ((op, v a) ∷ on z p) z) g.1, g.2)

    step_agree : (x : Step P) → Agree l (rest (after P (step P x s) s)) → Agree (noted P Kept x (reply P (step P x s)) l) (follow P (step P x s) s rest)
    step_agree (at_port none op) g = (ap suc g.0, g.1, g.2)
    step_agree (at_port (some p) (edit e)) g = other_agree (at_port (some p) (edit e)) (P.edited (on s.desks p) e) (did_edit P p s) (λ d. tt) g
    step_agree (at_port (some p) commit) g =
        other_agree (at_port (some p) commit) (P.finished (on s.desks p)) (did_commit P p s) (λ c. tt) g
    step_agree (at_port (some p) drop_card) g = other_agree (at_port (some p) drop_card) (P.discarded (on s.desks p)) (did_drop P p s) (λ u. tt) g
    step_agree (at_port (some p) (hold k)) g = told_agree p (hold k) (P.copy k s.meter) (P.told k s.meter) (λ h. with_held P p h s) g
    step_agree (at_port (some p) (read a)) g = told_agree p (read a) (P.look (on s.holds p) a) (λ v. v) (λ v. s) g
    step_agree (block b) g = other_agree (block b) (P.feed s.meter b) (did_block P b s) (λ r. tt) g
    step_agree (reset k) g = other_agree (reset k) (P.clear s.meter k) (did_reset P k s) (λ m. tt) g

  agree : {ks : List Call} {m : Kept} {l : Log P Kept} → Ran P M ks m l → SoundState P S (state_of m) → Agree l (run P (map step_of ks) (state_of m))
  agree ended w = (refl, refl, refl)
  agree (called {k} {ks} {m} {o} {l} a r) w =
      let e = A.leaves k m o w a in
      let g = agree r (subst (SoundState P S) (sym e) (step_sound P S (step_of k) (state_of m) w)) in
      subst (λ (z : Reply P). Agree (noted P Kept (step_of k) z l) (run P (map step_of (k ∷ ks)) (state_of m))) (sym (A.replies k m o w a))
      (step_agree (run P (map step_of ks)) (state_of m) l (step_of k) (subst (λ (t : State P). Agree l (run P (map step_of ks) t)) e g))

  steps_back : (xs : List (Step P)) → map step_of (map call_of xs) ≡ xs
  steps_back [] = refl
  steps_back (x ∷ xs) = ap (λ (y : Step P). y ∷ map step_of (map call_of xs)) (A.step_call x) ∙ ap (λ (ys : List (Step P)). x ∷ ys) (steps_back xs)

  -- ---- demand 3 of the calls

  module _ (m : P.Meter) (z : Kept) (start : state_of z ≡ fresh P m) (w : SoundState P S (fresh P m)) (ks : List Call) where
    abbrev long : Run P
    long = run P (map step_of ks) (fresh P m)

    abbrev short : Run P
    short = run P (steps_of P (shorter P (fresh P m) (map step_of ks))) (fresh P m)

    good : SoundState P S (state_of z)
    good = subst (SoundState P S) (sym start) w

    long_is : (l : Log P Kept) → Ran P M ks z l → Agree l long
    long_is l r = subst (λ (s : State P). Agree l (run P (map step_of ks) s)) start (agree r good)

    short_is : (l : Log P Kept) → Ran P M (shorter_calls P M z ks) z l → Agree l short
    short_is l r =
        subst (λ (s : State P). Agree l (run P (steps_of P (shorter P s (map step_of ks))) s)) start
        (subst (λ (xs : List (Step P)). Agree l (run P xs (state_of z))) (steps_back (steps_of P (shorter P (state_of z) (map step_of ks)))) (agree r good))

    pub calls_demand3 : (l : Log P Kept) → Ran P M ks z l → CallsDemand3 P M z ks l
    calls_demand3 l r =
        let d = demand3 P m (map step_of ks) in
        let g = agree r good in
        let h = long_is l r in
        record {
          refusals = g.0;
          heard = g.1;
          end = g.2;
          none_refused = λ l' r'. (short_is l' r').0 ∙ d.none_refused;
          same_values = λ l' r' p.
              ap (λ (t : PerPort (List (Op P × P.Value))). on t p) (short_is l' r').1 ∙ d.same_values p
              ∙ ap (λ (t : PerPort (List (Op P × P.Value))). on t p) (sym h.1);
          same_state = λ l' r'. (short_is l' r').2 ∙ d.same_state ∙ sym h.2;
        }
