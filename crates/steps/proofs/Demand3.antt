-- Demand 3, for any parts: the three passes one after the other.
use mathlib.Core.Path.{◌≡◌, ap, ◌∙◌}
use mathlib.Core.List.{List}
use Rattle.steps.specs.Port.{on}
use Rattle.steps.specs.Parts.{Parts}
use Rattle.steps.specs.Module.{Step, fresh}
use Rattle.steps.specs.Run.{Run}
use Rattle.steps.specs.Shorter.{struck, moved}
use Rattle.steps.specs.Demand3.{long_run, short_run, Demand3}
use Rattle.steps.proofs.Strike.{unrefused, strike}
use Rattle.steps.proofs.Move.{move}
use Rattle.steps.proofs.Draw.{draw}

-- but for the refusals, of which the shorter one has none, the two runs are one
pub same_run : (P : Parts) (m : P.Meter) (xs : List (Step P)) → short_run P m xs ≡ unrefused P (long_run P m xs)
same_run P m xs =
    let e = strike P xs (fresh P m) in
    let h = ap (λ (r : Run P). r.refusals) e in
    let f = move P (struck P xs (fresh P m)) m h in
    draw P (moved P (struck P xs (fresh P m))) m (ap (λ (r : Run P). r.refusals) f ∙ h) ∙ f ∙ e

pub demand3 : (P : Parts) (m : P.Meter) (xs : List (Step P)) → Demand3 P m xs
demand3 P m xs =
    let e = same_run P m xs in
    record {
      none_refused = ap (λ (r : Run P). r.refusals) e;
      same_intervals = ap (λ (r : Run P). r.closed) e;
      same_values = λ p. ap (λ (r : Run P). on r.heard p) e;
      same_meter = ap (λ (r : Run P). r.end.meter) e;
      same_state = ap (λ (r : Run P). r.end) e;
      same_history = ap (λ (r : Run P). r.history) e;
    }
