-- `Line::then` meets its contract.
use mathlib.Core.Path.{refl, ap, ◌∙◌}
use mathlib.Core.List.{List}
use Prim.Native.Nat.{ℕ, ◌+◌}
use native.Mathlib.Omega.{arith}
use lib.ListN.{length, take}
use Rattle.counter.specs.Lines.{shown}
use Rattle.counter.proofs.Laws.{shown_more}
use Rattle.counter.proofs.line.Line.then.Goals as goal

pub returns : goal.returns
unfolding shown
returns c =
    let a = c.args in
    (ap (λ (b : List ℕ). take (a.self.len + length a.text.now) b) c.put_at.ensures ∙ shown_more a.self.bytes a.text.now a.self.len (omega arith), refl)
