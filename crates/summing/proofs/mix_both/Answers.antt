-- `mix_both` meets its contract.
use Rattle.summing.specs.Inside.{mixed_both}
use Rattle.sample.proofs.Corrections.{mixed_in}
use Rattle.sample.specs.Sample.{mixed}
use Rattle.range.proofs.Ranges.{in_fits, in_mag}
use Rattle.number.proofs.Fits.{widen}
use Prim.Native.Nat.{◌<◌}
use lib.Signed.{mag}
use lib.IntN.{ℤ}
use mir.Facts.{to_z-of_z}
use mir.Val.{SFits}
use mir.Syntax.{w32, w64}
use mathlib.Core.Path.{◌≡◌, ◌∙◌}
use native.Mathlib.Omega.{arith}
use Rattle.summing.proofs.mix_both.Goals as goal
use Rattle.summing.proofs.mix_both.Goals.{After-mix-s1, After-mix-s3}

wide : {z : ℤ} → mag z < 8388608 → SFits w64 z
wide {z} h = widen (in_fits (in_mag z h))

-- both inputs mixed with their own previous ones, and in the range
mix_is : (c : After-mix-s1) → let a = c.args in c.mix-s1.result ≡ mixed a.p.phase a.x.s1 a.old1
mix_is c =
    let h : SFits w64 c.args.x.s1 = wide c.requires.1.s1 in
    c.mix-s1.ensures ∙ rw (to_z-of_z h, to_z-of_z c.ranges.old1)

mix2_is : (c : After-mix-s3) → let a = c.args in c.mix-s3.result ≡ mixed a.p.phase a.x.s3 a.old3
mix2_is c =
    let h : SFits w64 c.args.x.s3 = wide c.requires.1.s3 in
    c.mix-s3.ensures ∙ rw (to_z-of_z h, to_z-of_z c.ranges.old3)

s1_fits : (c : After-mix-s1) → SFits w32 c.mix-s1.result
s1_fits c = let p = c.requires in rw (mix_is c) (in_fits (in_mag _ (mixed_in _ _ _ (omega (arith, p.0)) p.1.s1 p.2)))

s3_fits : (c : After-mix-s3) → SFits w32 c.mix-s3.result
s3_fits c = let p = c.requires in rw (mix2_is c) (in_fits (in_mag _ (mixed_in _ _ _ (omega (arith, p.0)) p.1.s3 p.3)))

pub mix-s1-requires : goal.mix-s1-requires
mix-s1-requires c = let p = c.requires in (rw (to_z-of_z (wide p.1.s1)) p.1.s1, rw (to_z-of_z c.ranges.old1) p.2)

pub mix-s3-requires : goal.mix-s3-requires
mix-s3-requires c = let p = c.requires in (rw (to_z-of_z (wide p.1.s3)) p.1.s3, rw (to_z-of_z c.ranges.old3) p.3)

pub overflow_cast-result : goal.overflow_cast-result
overflow_cast-result c = rw (to_z-of_z (widen (s1_fits (goal.at.overflow_cast-result c).After-mix-s1))) (s1_fits (goal.at.overflow_cast-result c).After-mix-s1)

pub overflow_cast-result-2 : goal.overflow_cast-result-2
overflow_cast-result-2 c = rw (to_z-of_z (widen (s3_fits c))) (s3_fits c)

pub returns : goal.returns
unfolding mixed_both
returns c =
    rw (to_z-of_z (widen (s1_fits (goal.at.returns c).After-mix-s1)), to_z-of_z (s1_fits (goal.at.returns c).After-mix-s1), mix_is (goal.at.returns c).After-mix-s1, to_z-of_z (widen (s3_fits c)), to_z-of_z (s3_fits c), mix2_is c)
