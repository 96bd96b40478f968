-- `correct` meets its contract.
use mathlib.Core.Path.{◌≡◌, ◌∙◌, ap, ap₂, subst}
use mathlib.Core.Bool.{Bool, not}
use lib.Dec.{eqb}
use lib.IntN.{ℤ}
use mir.Syntax.{w32, w64}
use mir.Val.{SFits, to_z, of_z}
use Rattle.range.specs.Range.{clipped}
use Rattle.number.proofs.Fits.{ranges, answer, widen}
use Rattle.range.proofs.Ranges.{in_fits, in_mag, outside_test}
use Rattle.sample.proofs.Corrections.{corrected_in}
use Rattle.sample.specs.Sample.{scaled, corrected, was_clipped, correction}
use borrow.Author.Rules.{sfits_of}
use Rattle.sample.proofs.correct.Goals as goal
use Rattle.sample.proofs.correct.Goals.{After-clip-value, After-scale-x}

-- the value before clipping
scaled_is : (c : After-scale-x) → c.scale-x.result ≡ scaled c.args.raw c.args.offset c.args.gain
scaled_is c = c.scale-x.ensures ∙ search ranges

scaled_fits : (c : After-scale-x) → SFits w64 c.scale-x.result
scaled_fits c = sfits_of c.scale-x.type_inv

-- and the clipped one
value_is : (c : After-clip-value) → let a = c.args in to_z w32 (of_z w32 c.clip-value.result) ≡ corrected a.raw a.offset a.gain
unfolding corrected
value_is c = answer w32 c.clip-value.type_inv (c.clip-value.ensures ∙ ap clipped (answer w64 c.scale-x.type_inv (scaled_is c.before)))

pub overflow_cast-result : goal.overflow_cast-result
overflow_cast-result c = let a = c.args in rw (value_is c) (widen (in_fits (in_mag (corrected a.raw a.offset a.gain) (corrected_in a.raw a.offset a.gain))))

pub returns : goal.returns
unfolding correction corrected was_clipped
returns c =
    let f = c.before in
    let a = f.args in
    let x = scaled a.raw a.offset a.gain in
    ap₂ (λ (v : ℤ) (b : Bool). record { value = v; clipped = b }) (value_is c)
    (ap₂ (λ (v x : ℤ). not (eqb (of_z w64 v) (of_z w64 x))) (value_is c) (scaled_is (goal.at.returns c).After-scale-x) ∙ outside_test x (subst (SFits w64) (scaled_is (goal.at.returns c).After-scale-x) (scaled_fits (goal.at.returns c).After-scale-x)))
