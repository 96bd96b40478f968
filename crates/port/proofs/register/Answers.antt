-- `register` meets its contract.
use mathlib.Core.Path.{◌≡◌, ◌∙◌}
use native.Mathlib.Omega.{arith}
use lib.ListN.{length}
use mir.Facts.{to_z-of_z}
use mir.Syntax.{w32, w64}
use mir.Val.{SFits}
use Rattle.number.proofs.Fits.{widen}
use Rattle.port.proofs.Registers.{at_vrms, at_a, at_b, at_low, at_high}
use borrow.Author.Rules.{rules, sfits_of}
use Rattle.port.proofs.register.Goals as goal
use Rattle.port.proofs.register.Goals.{Start}

figures_a : (c : Start) → length c.args.r.a.figures ≡ 6
figures_a c = search rules

figures_b : (c : Start) → length c.args.r.b.figures ≡ 6
figures_b c = search rules

low : (c : Start) → length c.args.r.ends.low ≡ 6
low c = search rules

pub overflow_cast-result : goal.overflow_cast-result
overflow_cast-result c =
    let h : SFits w32 c.args.r.vrms = search rules in
    rw (to_z-of_z h) (widen h)

pub returns-then-k-eq0 : goal.returns-then-k-eq0
returns-then-k-eq0 c =
    let h : SFits w32 c.args.r.vrms = search rules in
    rw (to_z-of_z h, to_z-of_z (widen h)) (at_vrms c.args.r c.args.k (figures_a (goal.at.returns-then-k-eq0 c).Start) (figures_b (goal.at.returns-then-k-eq0 c).Start) (low (goal.at.returns-then-k-eq0 c).Start) c.if-k-eq0.true)

pub returns-then-k-lt-IB_RMS : goal.returns-then-k-lt-IB_RMS
returns-then-k-lt-IB_RMS c =
    to_z-of_z {w = w64} (sfits_of c.shown.type_inv) ∙ c.shown.ensures ∙ at_a c.args.r c.args.k (figures_a (goal.at.returns-then-k-lt-IB_RMS c).Start) (figures_b (goal.at.returns-then-k-lt-IB_RMS c).Start) (low (goal.at.returns-then-k-lt-IB_RMS c).Start) (omega arith) (omega arith)

pub returns-then-k-lt-MIN1 : goal.returns-then-k-lt-MIN1
returns-then-k-lt-MIN1 c =
    to_z-of_z {w = w64} (sfits_of c.shown-then-k-lt-MIN1.type_inv) ∙ c.shown-then-k-lt-MIN1.ensures ∙ at_b c.args.r c.args.k (figures_a (goal.at.returns-then-k-lt-MIN1 c).Start) (figures_b (goal.at.returns-then-k-lt-MIN1 c).Start) (low (goal.at.returns-then-k-lt-MIN1 c).Start) (omega arith) (omega arith)

pub returns-then-k-lt-MAX1 : goal.returns-then-k-lt-MAX1
returns-then-k-lt-MAX1 c =
    to_z-of_z {w = w64} (sfits_of c.of_six.type_inv) ∙ c.of_six.ensures ∙ at_low c.args.r c.args.k (figures_a (goal.at.returns-then-k-lt-MAX1 c).Start) (figures_b (goal.at.returns-then-k-lt-MAX1 c).Start) (low (goal.at.returns-then-k-lt-MAX1 c).Start) (omega arith) (omega arith)

pub returns : goal.returns
returns c =
    to_z-of_z {w = w64} (sfits_of c.of_six-2.type_inv) ∙ c.of_six-2.ensures ∙ at_high c.args.r c.args.k (figures_a (goal.at.returns c).Start) (figures_b (goal.at.returns c).Start) (low (goal.at.returns c).Start) (omega arith)
