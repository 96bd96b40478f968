-- Pass 1: struck of its refused steps, a sequence runs as before, but for the refusals.
use mathlib.Core.Path.{◌≡◌, refl, ap, ◌∙◌}
use mathlib.Core.List.{List, [], ◌∷◌}
use Rattle.steps.specs.Answers.{refused, accepted}
use Rattle.steps.specs.Parts.{Parts}
use Rattle.steps.specs.Module.{Step, State, Report, silent, commits, tells, closes, resets, Outcome, step}
use Rattle.steps.specs.Run.{Run, with_report, follow, run}
use Rattle.steps.specs.Shorter.{struck_if, struck}

module _ (P : Parts) where
  -- the same run, but without its refusals
  abbrev pub unrefused : Run P → Run P
  unrefused r = record { refusals = 0; history = r.history; closed = r.closed; heard = r.heard; end = r.end }

  report_unrefused : (a : Report P) (r : Run P) → with_report P a (unrefused r) ≡ unrefused (with_report P a r)
  report_unrefused silent r = refl
  report_unrefused (commits c) r = refl
  report_unrefused (tells p o v) r = refl
  report_unrefused (closes b c) r = refl
  report_unrefused (resets k) r = refl

  strike_one : (x : Step P) (xs : List (Step P)) (s : State P) (o : Outcome P) → step P x s ≡ o →
      ((t : State P) → run P (struck P xs t) t ≡ unrefused (run P xs t)) →
      run P (struck_if P o x s (struck P xs)) s ≡ unrefused (follow P o s (run P xs))
  strike_one x xs s (refused n) e ih = ih s
  strike_one x xs s (accepted r) e ih = rw e (ap (with_report P r.0) (ih r.1) ∙ report_unrefused r.0 (run P xs r.1))

  pub strike : (xs : List (Step P)) (s : State P) → run P (struck P xs s) s ≡ unrefused (run P xs s)
  strike [] s = refl
  strike (x ∷ xs) s = strike_one x xs s (step P x s) refl (strike xs)
